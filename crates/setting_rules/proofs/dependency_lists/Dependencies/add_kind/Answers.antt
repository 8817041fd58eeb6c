use Rattle.std.proofs.Common.{◌++◌, ◌∷◌, ◌≡◌}
use Rattle.setting_rules.proofs.{Named.{by_words, names_by-append, noted_by, noted_by-append}, Prelude.{[], ap, append-nil, Bor, flat_map, List, map, names_by, sym, words_of, ℕ, ◌∙◌}, RowLemmas.{texts_more}}
use Rattle.setting_rules.proofs.dependency_lists.Dependencies.add_kind.Goals as goal

pub loop-value-preserved : goal.loop-value-preserved
loop-value-preserved c =
    let unit = c.args.unit.now in
    let values = c.args.values.now in
    let value = c.value-item.result in
    let words : map (λ (w : Bor (List ℕ)). w.now) c.deref.result.now ≡ flat_map words_of (value ∷ []) =
    ap (map (λ (w : Bor (List ℕ)). w.now)) c.deref.ensures.value ∙ c.in_ok-words.ensures.words ∙ ap words_of c.as_slice.ensures.bytes ∙ sym (append-nil (words_of value)) in (
      texts_more (λ vs. names_by unit (flat_map words_of vs)) (by_words (names_by unit) (names_by-append unit)) values c.loop-value.value-index _ value [] c.loop-value.names.items c.add_words.new.names.items c.loop-value-test.true c.value-item.is c.loop-value.invariant.0 (c.in_ok-add_words.ensures.names ∙ ap (λ ws. c.loop-value.names.items ++ names_by unit ws) words),
      texts_more (λ vs. noted_by unit c.args.kind (flat_map words_of vs)) (by_words (noted_by unit c.args.kind) (noted_by-append unit c.args.kind)) values c.loop-value.value-index _ value c.args.self.now.notes c.loop-value.self.notes c.add_words.new.self.notes c.loop-value-test.true c.value-item.is c.loop-value.invariant.1 (c.in_ok-add_words.ensures.notes ∙ ap (λ ws. c.loop-value.self.notes ++ noted_by unit c.args.kind ws) words),
      c.in_ok-add_words.ensures.lists ∙ c.loop-value.invariant.2,
    )
