use Rattle.fragment_choice.proofs.{Indexing.{all_pushed, collects_pushed}, Prelude.{ap, link_targets, sym, ◌∙◌}}
use Rattle.fragment_choice.proofs.aliases.add_entry.Goals as goal

pub returns-clause-added : goal.returns-clause-added
returns-clause-added c =
    collects_pushed c.args.placed.now c.in_ok-try_clone.field-0 c.in_ok-own.own c.args.targets.now.items c.push.new.self.items (c.in_ok-try_clone.ensures.copy ∙ c.name-name.ensures.name) c.in_ok-push.ensures.items

pub returns-clause-own : goal.returns-clause-own
returns-clause-own c =
    all_pushed c.args.view.now c.in_ok-try_clone.field-0 c.in_ok-own.own c.args.targets.now.items c.push.new.self.items
    (c.in_ok-own.ensures.words ∙ ap (link_targets c.args.view.now) (c.as_slice.ensures.bytes ∙ sym c.in_ok-try_clone.ensures.copy)) c.in_ok-push.ensures.items
