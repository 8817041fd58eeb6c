use Rattle.dropins.proofs.{Found.{folder_entries_say}, Prelude.{ap, first_for, first_said, option_or, or_assoc, or_none, said_for, sym, ◌∙◌}}
use Rattle.dropins.proofs.precedence.add_folder.Goals as goal

pub loop-placed-init : goal.loop-placed-init
loop-placed-init c f =
    ap (λ es. option_or (first_for c.args.found.now.items f) (first_said (said_for c.args.search f) es)) c.entries_in-entries.ensures.entries
    ∙ ap (option_or (first_for c.args.found.now.items f)) (folder_entries_say c.args.level c.args.dir.now f c.args.view.now c.args.search)

pub loop-placed-preserved : goal.loop-placed-preserved
loop-placed-preserved c f =
    let rest = first_said (said_for c.args.search f) c.next_entry.new.self in
    ap (λ o. option_or o rest) (c.in_ok-add_entry.ensures.added f) ∙ or_assoc (first_for c.loop-placed.found.items f) (said_for c.args.search f c.in-Some.placed) rest
    ∙ ap (λ es. option_or (first_for c.loop-placed.found.items f) (first_said (said_for c.args.search f) es)) (sym c.in-Some.ensures.first)
    ∙ c.loop-placed.invariant f

pub returns : goal.returns
returns c = record {
  added = λ f.
      sym (or_none (first_for c.loop-placed.found.items f))
      ∙ ap (λ es. option_or (first_for c.loop-placed.found.items f) (first_said (said_for c.args.search f) es)) (sym c.in_default.ensures.first.0)
      ∙ c.loop-placed.invariant f;
}
