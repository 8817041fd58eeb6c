use Rattle.std.proofs.Common.{◌≡◌}
use Rattle.fragment_choice.proofs.{EntrySays.{entry_says, nothing_says}, Prelude.{[], ap, content_says, IfOk, own_path, path_at, PathParts, Some, subst, view, viewed_place, ◌∙◌}}
use Rattle.std.specs.FinMap as finmap
use Rattle.fragment_choice.proofs.choices.says.Goals as goal

pub returns-in-None : goal.returns-in-None
returns-in-None c =
    let store = c.args.view.now in
    record { said = nothing_says store c.args.name.now c.args.own.now c.args.level (c.in-None.ensures.held ∙ ap (λ b. finmap.get (view store) (path_at c.args.level [] b)) c.bytes.ensures.bytes); well_formed = c.bytes.ensures.well_formed }

pub returns-in-Some : goal.returns-in-Some
returns-in-Some c =
    let store = c.args.view.now in
    let name = c.args.name.now in
    let own = c.args.own.now in
    let placed = c.in-Some.placed in
    let held : Some placed.1 ≡ finmap.get (view store) (own_path own c.args.level) = c.in-Some.ensures.held ∙ ap (λ b. finmap.get (view store) (path_at c.args.level [] b)) c.bytes.ensures.bytes in
    let path : placed.0 ≡ own_path own c.args.level = c.in-Some.ensures.path ∙ ap (path_at c.args.level []) c.bytes.ensures.bytes in
    let says = ap (λ (p : PathParts). content_says name own (viewed_place store p) placed.1.content) path ∙ entry_says store name own c.args.level placed.1 held in
    record { said = subst (λ v. IfOk c.entry_says.result (λ said. said ≡ v)) says c.entry_says.ensures.said; well_formed = c.bytes.ensures.well_formed }
