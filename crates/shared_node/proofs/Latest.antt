-- The last copy, and what publishing preserves.
use Rattle.std.proofs.Common.{◌++◌, ◌∷◌, ◌≡◌}
use Rattle.logbook.specs.{declared.tokens.Seen.{Seen}, Pages.{Book}}
use mathlib.Core.List.{IsPrefix}
use Rattle.shared_node.proofs.Prelude.{[], ap, Err, HistoryEvent, latest, Law, List, MatchResult, Ok, opening_of, prefix_self, reader_view_of, ReaderView, refl, Replicated, Result, subst, sym, ℕ, ◌∙◌}

abbrev pub History : Type 0
History = Seen HistoryEvent ℕ Law

pub latest_snoc : {P S : Type 0} (seen : P → S) (s : S) (published_copies : List P) (p : P) → latest seen s (published_copies ++ p ∷ []) ≡ seen p
latest_snoc seen s [] p = refl
latest_snoc seen s (q ∷ published_copies) p = latest_snoc seen (seen q) published_copies p

-- what holds of the published copy, of what its writer knows, and of the copy that is due
abbrev pub IsPosted : Book → Replicated → ReaderView → History → History → Type 0
IsPosted b o v s l =
    (v ≡ reader_view_of b s.log) × (s.book ≡ b) × (l.book ≡ b) × (opening_of s.log ≡ o) × (opening_of l.log ≡ o) × IsPrefix s.log l.log

-- it stays true, whether publishing succeeds or not
pub sent : {T E : Type 0} (b : Book) (o : Replicated) (r : Result T E) (s s' l l' : History) (v v' : ReaderView) → IsPosted b o v s l
    → MatchResult r (λ _. (s' ≡ l) × (l' ≡ s')) (λ _. (s' ≡ s) × (l' ≡ l))
    → MatchResult r (λ _. v' ≡ reader_view_of s'.book s'.log) (λ _. v' ≡ v)
    → IsPosted b o v' s' l'
sent b o (Ok _) s s' l l' v v' old same seen =
    let book : s'.book ≡ b = ap (λ (x : History). x.book) same.0 ∙ old.2 in
    let opening : opening_of s'.log ≡ o = ap (λ (x : History). opening_of x.log) same.0 ∙ old.4 in (
      seen ∙ ap (λ (k : Book). reader_view_of k s'.log) book,
      book,
      ap (λ (x : History). x.book) same.1 ∙ book,
      opening,
      ap (λ (x : History). opening_of x.log) same.1 ∙ opening,
      subst (λ (k : List HistoryEvent). IsPrefix s'.log k) (sym (ap (λ (x : History). x.log) same.1)) (prefix_self s'.log),
    )
sent b o (Err _) s s' l l' v v' old same seen = (
  seen ∙ (old.0 ∙ ap (λ (x : History). reader_view_of b x.log) (sym same.0)),
  ap (λ (x : History). x.book) same.0 ∙ old.1,
  ap (λ (x : History). x.book) same.1 ∙ old.2,
  ap (λ (x : History). opening_of x.log) same.0 ∙ old.3,
  ap (λ (x : History). opening_of x.log) same.1 ∙ old.4,
  subst (λ (k : List HistoryEvent). IsPrefix k l'.log) (sym (ap (λ (x : History). x.log) same.0)) (subst (λ (k : List HistoryEvent). IsPrefix s.log k) (sym (ap (λ (x : History). x.log) same.1)) old.5),
)
