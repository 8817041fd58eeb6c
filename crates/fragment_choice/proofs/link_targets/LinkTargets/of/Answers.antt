use Rattle.std.proofs.Common.{◌++◌, ◌+◌, ◌<◌, ◌∷◌, ◌≡◌}
use Rattle.fragment_choice.proofs.{link_targets.LinkTargets.of.Goals.{in-None, in-Some-Gone, in-Some-Link+else-eq+in_ok-from_slice-in-Some-Link+in_ok-push-in-Some-Link}, OwnLinks.{gone_more, link_more, nothing_more}, Prelude.{[], ap, arith, Content, drop, false, Gone, is_null, levels, Link, link_targets, List, map, option_copied, own_path, rules, Some, subst, sym, targets_in, viewed_at, words_of, ℕ, ◌∙◌}}
use Rattle.fragment_choice.proofs.link_targets.LinkTargets.of.Goals as goal

pub loop-level-preserved : goal.loop-level-preserved
loop-level-preserved c =
    let s = c.args.view.now in
    let n = c.args.name.now in
    let l = c.loop-level.level in
    let lvl : l < 8 = omega (arith, c.loop-level-test.true) in
    let P : List (List ℕ) → Type 0 = λ links. map (λ target. Some target) links ++ words_of (targets_in s n (drop (l + 1) levels)) ≡ link_targets s n in
    elim c.match-visible_at.branch [
      | in-None w ↦
          subst P (sym w.links-is)
          (nothing_more s n l lvl c.loop-level.links c.loop-level.invariant (sym c.visible_at.ensures.visible ∙ ap option_copied w.in-None.is))
      | in-Some-Gone w ↦
          let is : viewed_at s (own_path n l) ≡ Some Gone = sym w.in-Some-Gone.ensures.visible ∙ ap (λ (x : Content). Some x) w.in-Some-Gone.field-0-is in
          subst P (sym w.links-is) (gone_more s n l lvl c.loop-level.links c.loop-level.invariant is)
      | in-Some-Link+else-eq+in_ok-from_slice-in-Some-Link+in_ok-push-in-Some-Link w ↦
          let target : List ℕ = w.in-Some-Link.target in
          let is : viewed_at s (own_path n l) ≡ Some (Link target) = sym w.in-Some-Link.ensures.visible ∙ ap (λ (x : Content). Some x) w.in-Some-Link.field-0-is in
          let null : is_null target ≡ false = search rules in
          let bytes : w.in_ok-from_slice-in-Some-Link.field-0 ≡ target = cc (w.in_ok-from_slice-in-Some-Link.ensures.copy, w.bytes-in-Some-Link.ensures.bytes) in
          subst P (sym (w.links-is ∙ w.in_ok-push-in-Some-Link.ensures.ok ∙ ap (λ (b : List ℕ). c.loop-level.links ++ b ∷ []) bytes))
          (link_more s n l lvl c.loop-level.links c.loop-level.invariant target is null)
    ]
