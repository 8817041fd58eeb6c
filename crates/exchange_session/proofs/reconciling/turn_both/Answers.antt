use Rattle.exchange_session.proofs.Meeting.{met, replied}
use Rattle.exchange_session.proofs.Prelude.{ap, EntryMap, inl, inr, store_below_refl, store_below_trans, subst, sym, ◌∙◌}
use Rattle.exchange_session.specs.{Joined.{joined}, Runs.{IsFrom}}
use Rattle.exchange_session.proofs.reconciling.turn_both.Goals as goal

pub returns-in_err-back-clause-kept : goal.returns-in_err-back-clause-kept
returns-in_err-back-clause-kept c = store_below_refl c.args.one.now.store

pub returns-then-is_quiet-clause-run : goal.returns-then-is_quiet-clause-run
returns-then-is_quiet-clause-run c = λ s t run apart.
    let told = c.in_ok-back.ensures in
    let back = c.in_ok-back.back in
    let next = replied c.reply.new.node.store c.args.message back run told.taken told.prints told.asks told.pieces told.pursued told.asked_back in
    let quiet = (c.is_quiet.ensures.quiet).0 c.if-is_quiet.true in
    let taken = c.in_ok-take_all.ensures.taken ∙ ap (λ v. joined c.args.one.now.store v.items) c.into_pieces.ensures.pieces in
    elim (met c.take_all.new.node.store next quiet.0 quiet.1 taken apart) [
      | inl found ↦ inl found
      | inr same ↦ inr (same.0, subst (λ (x : EntryMap). IsFrom s t x) (sym same.0) same.1)
    ]

pub returns-then-is_quiet-2-clause-run : goal.returns-then-is_quiet-2-clause-run
returns-then-is_quiet-2-clause-run c = λ s t run apart.
    let told = c.in_ok-back.ensures in
    let first = replied c.reply.new.node.store c.args.message c.in_ok-back.back run told.taken told.prints told.asks told.pieces told.pursued told.asked_back in
    let again = c.in_ok-next.ensures in
    let next = replied c.reply-2.new.node.store c.in_ok-back.back c.in_ok-next.next first again.taken again.prints again.asks again.pieces again.pursued again.asked_back in
    let quiet = (c.is_quiet-2.ensures.quiet).0 c.if-is_quiet-2.true in
    let taken = c.in_ok-take_all-2.ensures.taken ∙ ap (λ v. joined c.reply.new.node.store v.items) c.into_pieces-then-is_quiet-2.ensures.pieces in
    elim (met c.take_all-then-is_quiet-2.new.node.store next quiet.0 quiet.1 taken apart) [
      | inl found ↦ inl found
      | inr same ↦ inr (sym same.0, same.1)
    ]

pub returns-in_err-take_all-2-clause-others_kept : goal.returns-in_err-take_all-2-clause-others_kept
returns-in_err-take_all-2-clause-others_kept c = store_below_trans c.args.other.now.store c.reply.new.node.store c.take_all-then-is_quiet-2.new.node.store c.reply.ensures.kept c.take_all-then-is_quiet-2.ensures.kept

pub returns-then-is_quiet-2-clause-others_kept : goal.returns-then-is_quiet-2-clause-others_kept
returns-then-is_quiet-2-clause-others_kept c = store_below_trans c.args.other.now.store c.reply.new.node.store c.take_all-then-is_quiet-2.new.node.store c.reply.ensures.kept c.take_all-then-is_quiet-2.ensures.kept

pub returns-clause-run : goal.returns-clause-run
returns-clause-run c = λ s t run.
    let told = c.in_ok-back.ensures in
    let first = replied c.reply.new.node.store c.args.message c.in_ok-back.back run told.taken told.prints told.asks told.pieces told.pursued told.asked_back in
    let again = c.in_ok-next.ensures in
    replied c.reply-2.new.node.store c.in_ok-back.back c.in_ok-next.next first again.taken again.prints again.asks again.pieces again.pursued again.asked_back
