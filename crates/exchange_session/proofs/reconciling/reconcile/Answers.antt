use Rattle.exchange_session.proofs.Meeting.{all_told, began, both_joined, both_ok}
use Rattle.exchange_session.proofs.Prelude.{inr, MatchOption, Option, refl, store_below_refl, store_below_trans, subst, ◌∙◌}
use Rattle.exchange_session.proofs.Running.{known}
use Rattle.exchange_session.specs.Runs.{AreDone, Run, said_of}
use Rattle.exchange_session.specs.declared.messages.Message.{Message}
use Rattle.exchange_session.proofs.reconciling.reconcile.Goals as goal

pub returns-in_err-message-clause-kept : goal.returns-in_err-message-clause-kept
returns-in_err-message-clause-kept c = store_below_refl c.args.one.now.store

pub returns-in_err-message-clause-others_kept : goal.returns-in_err-message-clause-others_kept
returns-in_err-message-clause-others_kept c = store_below_refl c.args.other.now.store

pub loop-init : goal.loop-init
loop-init c = record {
  run = began c.args.seed c.args.one.now.store c.args.other.now.store c.in_ok-message.message c.in_ok-message.ensures.print c.in_ok-message.ensures.asks c.in_ok-message.ensures.pieces;
  kept = store_below_refl c.args.one.now.store;
  others_kept = store_below_refl c.args.other.now.store;
  writer = refl;
  others_writer = refl;
}

pub returns-in_err-turn_both-clause-kept : goal.returns-in_err-turn_both-clause-kept
returns-in_err-turn_both-clause-kept c = store_below_trans c.args.one.now.store c.loop.one.store c.turn_both.new.one.store c.loop.invariant.kept c.turn_both.ensures.kept

pub returns-in_err-turn_both-clause-others_kept : goal.returns-in_err-turn_both-clause-others_kept
returns-in_err-turn_both-clause-others_kept c = store_below_trans c.args.other.now.store c.loop.other.store c.turn_both.new.other.store c.loop.invariant.others_kept c.turn_both.ensures.others_kept

pub returns-in-None-clause-kept : goal.returns-in-None-clause-kept
returns-in-None-clause-kept c = store_below_trans c.args.one.now.store c.loop.one.store c.turn_both.new.one.store c.loop.invariant.kept c.turn_both.ensures.kept

pub returns-in-None-clause-others_kept : goal.returns-in-None-clause-others_kept
returns-in-None-clause-others_kept c = store_below_trans c.args.other.now.store c.loop.other.store c.turn_both.new.other.store c.loop.invariant.others_kept c.turn_both.ensures.others_kept

pub returns-in-None-clause-joined : goal.returns-in-None-clause-joined
returns-in-None-clause-joined c =
    let a = c.args.one.now.store in
    let b = c.args.other.now.store in
    let one = c.turn_both.new.one.store in
    let other = c.turn_both.new.other.store in
    let done = subst (λ (o : Option Message). MatchOption o (AreDone c.args.seed a b one other) (λ (told : Message). Run c.args.seed a b one other (said_of told))) c.in-None.is (c.in_ok-turn_both.ensures.run a b c.loop.invariant.run) in
    both_joined c.args.seed a b one other done
    (store_below_trans a c.loop.one.store one c.loop.invariant.kept c.turn_both.ensures.kept)
    (store_below_trans b c.loop.other.store other c.loop.invariant.others_kept c.turn_both.ensures.others_kept)

pub loop-preserved : goal.loop-preserved
loop-preserved c =
    let a = c.args.one.now.store in
    let b = c.args.other.now.store in
    let one = c.turn_both.new.one.store in
    let other = c.turn_both.new.other.store in
    record {
      run = subst (λ (o : Option Message). MatchOption o (AreDone c.args.seed a b one other) (λ (told : Message). Run c.args.seed a b one other (said_of told))) c.in-Some.is (c.in_ok-turn_both.ensures.run a b c.loop.invariant.run);
      kept = store_below_trans a c.loop.one.store one c.loop.invariant.kept c.turn_both.ensures.kept;
      others_kept = store_below_trans b c.loop.other.store other c.loop.invariant.others_kept c.turn_both.ensures.others_kept;
      writer = c.turn_both.ensures.writer ∙ c.loop.invariant.writer;
      others_writer = c.turn_both.ensures.others_writer ∙ c.loop.invariant.others_writer;
    }

pub returns-clause-kept : goal.returns-clause-kept
returns-clause-kept c = store_below_trans c.args.one.now.store c.loop.one.store c.tell_all.new.one.store c.loop.invariant.kept c.tell_all.ensures.kept

pub returns-clause-others_kept : goal.returns-clause-others_kept
returns-clause-others_kept c = store_below_trans c.args.other.now.store c.loop.other.store c.tell_all.new.other.store c.loop.invariant.others_kept c.tell_all.ensures.others_kept

pub returns-clause-joined : goal.returns-clause-joined
returns-clause-joined c =
    let a = c.args.one.now.store in
    let b = c.args.other.now.store in
    let before = known c.loop.invariant.run in
    both_ok c.tell_all.result c.tell_all.ensures.joined c.tell_all.ensures.same (λ first second apart.
    inr (all_told a b c.loop.one.store c.loop.other.store c.tell_all.new.one.store c.tell_all.new.other.store before.sender_from before.receiver_from c.loop.invariant.kept c.loop.invariant.others_kept apart first second))
