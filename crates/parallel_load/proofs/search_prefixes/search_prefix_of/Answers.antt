use Rattle.parallel_load.proofs.Prelude.{Bor, HasNoStop, IsSearchPrefixOf, List, MatchOption, Option, subst, sym, ℕ}
use Rattle.parallel_load.proofs.{Cutting.{cut_at, cut_nowhere, dash_before, no_dash_before, none_taken, search_prefix_with, search_prefix_without}, search_prefixes.search_prefix_of.Goals.{else-stop-gt0-via-else-stop-gt0, else-stop-gt0-via-then-stop-gt0+else-part-stop-eq45}}
use Rattle.parallel_load.proofs.search_prefixes.search_prefix_of.Goals as goal

pub returns-in_err-stop : goal.returns-in_err-stop
returns-in_err-stop c =
    let P : Option (Bor (List ℕ)) → Type 0 = λ o. MatchOption o (HasNoStop c.args.part.now) (λ search_prefix. IsSearchPrefixOf c.args.part.now search_prefix.now) in
    record { search_prefix = subst P (sym c.from_residual.ensures) (cut_nowhere c.args.part.now (sym c.in_err-stop.ensures.place)) }

pub returns-then-part-stop-eq45 : goal.returns-then-part-stop-eq45
returns-then-part-stop-eq45 c =
    let cut = cut_at c.args.part.now c.in_ok-stop.stop (sym c.in_ok-stop.ensures.place) in
    record { search_prefix = search_prefix_without c.args.part.now c.in_ok-stop.stop cut (dash_before c.args.part.now c.in_ok-stop.stop c.if-stop-gt0.true cut.within c.if-part-stop-eq45.true) }

pub returns-else-stop-gt0 : goal.returns-else-stop-gt0
returns-else-stop-gt0 c =
    let part = c.args.part.now in
    let stop = c.in_ok-stop.stop in
    let cut = cut_at part stop (sym c.in_ok-stop.ensures.place) in
    record {
      search_prefix = search_prefix_with part stop cut (elim c.else-stop-gt0.branch [
        | else-stop-gt0-via-then-stop-gt0+else-part-stop-eq45 w ↦ no_dash_before part stop cut.within w.if-part-stop-eq45.false
        | else-stop-gt0-via-else-stop-gt0 w ↦ none_taken part stop w.if-stop-gt0.false
      ]);
    }
