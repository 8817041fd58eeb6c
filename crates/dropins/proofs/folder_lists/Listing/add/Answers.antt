use Rattle.dropins.proofs.{Listed.{one_more}, Prelude.{◌∙◌}}
use Rattle.dropins.proofs.folder_lists.Listing.add.Goals as goal

pub returns-in_ok-push-clause-kept : goal.returns-in_ok-push-clause-kept
returns-in_ok-push-clause-kept c = λ n. c.in_ok-insert.ensures.updates.0 n ∙ one_more c.in_ok-try_clone.field-0 c.args.name n c.args.self.now.names.items c.push.new.self.items _ c.in_ok-try_clone.ensures.copy (c.requires.kept n) c.in_ok-push.ensures.items
