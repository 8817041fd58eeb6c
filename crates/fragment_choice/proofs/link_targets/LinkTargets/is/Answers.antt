use Rattle.std.proofs.Common.{◌≡◌}
use Rattle.fragment_choice.proofs.Prelude.{ap, beq, Bool, false, link_targets_with, List, name_eq-Decides, refl, slice_eq-Decides, sym, true, ℕ, ◌∙◌}
use Rattle.fragment_choice.proofs.link_targets.LinkTargets.is.Goals as goal

same_ends : (a b : Bool) → beq a b ≡ true → a ≡ b
same_ends true true h = refl
same_ends true false h = cc (h)
same_ends false true h = cc (h)
same_ends false false h = refl

pub returns-then-self-other : goal.returns-then-self-other
returns-then-self-other c = record {
  same = λ h.
      (let links : c.self.inside.links ≡ c.other.inside.links =
      (slice_eq-Decides name_eq-Decides c.self.inside.links c.other.inside.links c.eq.result c.eq.ensures).0 h in
      let ends : c.self.inside.ends ≡ c.other.inside.ends = same_ends c.self.inside.ends c.other.inside.ends c.if-self-other.true in
      sym c.self.view_is ∙ ap (λ (ls : List (List ℕ)). link_targets_with ls c.self.inside.ends) links ∙ ap (link_targets_with c.other.inside.links) ends ∙ c.other.view_is);
}
