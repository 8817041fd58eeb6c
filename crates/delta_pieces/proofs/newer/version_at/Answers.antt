use Rattle.std.proofs.Common.{◌≡◌}
use Rattle.delta_pieces.proofs.{Passes.{find_before_first, find_first}, Prelude.{ap, false, is_eq, place_cmp, sym, true, ◌∙◌}}
use Rattle.delta_pieces.proofs.newer.version_at.Goals as goal

pub returns-then-is_eq : goal.returns-then-is_eq
returns-then-is_eq c =
    let tied : is_eq (place_cmp c.in_ok-next.next.now.0 c.args.placed.now.0) ≡ true = ap is_eq (sym c.order_of.ensures.order) ∙ sym c.is_eq.ensures ∙ c.if-is_eq.true in
    record { version = sym (find_first c.args.placed.now.0 c.args.versions.now c.in_ok-next.next.now c.in_ok-next.ensures.value tied) }

pub returns-else-is_eq : goal.returns-else-is_eq
returns-else-is_eq c =
    let other : is_eq (place_cmp c.in_ok-next.next.now.0 c.args.placed.now.0) ≡ false = ap is_eq (sym c.order_of.ensures.order) ∙ sym c.is_eq.ensures ∙ c.if-is_eq.false in
    record { version = sym (find_before_first c.args.placed.now.0 c.args.versions.now c.in_ok-next.next.now c.in_ok-next.ensures.value c.requires.sorted c.requires.next other) }
