use Rattle.std.proofs.Common.{◌≡◌}
use Rattle.index_rows.proofs.Prelude.{ap, Bool, false, Global, IsMember, List, subst, sym, true, Vec, ℕ, ◌∙◌}
use Rattle.index_rows.proofs.{bits.members_of.Goals.{else-is_member, then-is_member+in_ok-push}, Listing.{IsListedBelow, IsListedBelow-more, IsListedBelow-none, IsListedBelow-skip}}
use Rattle.index_rows.proofs.bits.members_of.Goals as goal

pub loop-node-init : goal.loop-node-init
loop-node-init c =
    let P : List ℕ → Type 0 = IsListedBelow (IsMember c.args.bits.now) 0 in
    subst P (sym c.new-nodes.ensures.items) (IsListedBelow-none (IsMember c.args.bits.now))

unset_here : (b : Bool) → b ≡ false → ¬ (b ≡ true)
unset_here b e f = cc

pub loop-node-preserved : goal.loop-node-preserved
loop-node-preserved c =
    elim c.if-is_member.branch [
      | then-is_member+in_ok-push w ↦
          IsListedBelow-more _ _ _ _ c.loop-node.invariant w.if-is_member.true (ap (λ (v : Vec ℕ Global). v.items) w.nodes-is ∙ w.in_ok-push.ensures.items)
      | else-is_member w ↦
          IsListedBelow-skip _ _ _ _ c.loop-node.invariant (unset_here _ w.if-is_member.false) (ap (λ (v : Vec ℕ Global). v.items) w.nodes-is)
    ]
