use Rattle.implied_names.proofs.{Prelude.{ap, joined, map, Some, sym, ◌∙◌}, Texts.{no_path_behind, no_path_up, path_there, up_as_said}}
use Rattle.implied_names.proofs.paths.path_of.Goals as goal

pub returns-then-not-starts_with : goal.returns-then-not-starts_with
returns-then-not-starts_with c = record { path = sym (no_path_behind c.args.text.now (sym c.starts_with.ensures.value ∙ c.if-not-starts_with.true)) }

pub returns-then-goes_up : goal.returns-then-goes_up
returns-then-goes_up c = record {
  path = sym (no_path_up c.args.text.now (up_as_said c.in_ok-parts.parts.items c.deref.result.now _ c.goes_up.result c.goes_up.ensures.test c.deref.ensures.value c.in_ok-parts.ensures.components ∙ c.if-goes_up.true));
}

pub returns : goal.returns
returns c = record {
  path =
      ap Some (c.in_ok-joined.ensures.joined ∙ ap joined (ap (map (λ part. part.now)) c.deref-2.ensures.value ∙ c.in_ok-parts.ensures.components))
      ∙ sym (path_there c.args.text.now (sym c.starts_with.ensures.value ∙ c.if-not-starts_with.false)
      (up_as_said c.in_ok-parts.parts.items c.deref.result.now _ c.goes_up.result c.goes_up.ensures.test c.deref.ensures.value c.in_ok-parts.ensures.components ∙ c.if-goes_up.false));
}
