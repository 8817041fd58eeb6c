-- A run that is cut in two.
use Rattle.std.proofs.Common.{◌<◌, ◌∷◌, ◌≡◌, ◌≢◌, ◌≤◌}
use Rattle.chunked_pairs.proofs.Prelude.{[], ap, arith, cut_run, cut_separator, drop, false, get_or, in_runs, insert, insert_cut, is_lt, length, length_with, Less, List, on_err_weaker, on_ok_weaker, OnErr, OnOk, Ordering, Result, run_at, suc, sym, take, Vec, viewed, with_run, with_same, zero, ℕ, ◌∙◌}
use Rattle.chunked_pairs.proofs.Views.{length_viewed, viewed_insert}

pub some_item : {A : Type 0} (xs : List A) → 0 < length xs → A
some_item [] lt = absurd (omega (arith, lt))
some_item (x ∷ xs) lt = x

pub take_short : {A : Type 0} (n : ℕ) (xs : List A) → length (take n xs) ≤ n
take_short zero [] = omega arith
take_short (suc n) [] = omega arith
take_short zero (x ∷ xs) = omega arith
take_short (suc n) (x ∷ xs) = let h = take_short n xs in omega arith

pub not_lt : (r : Ordering) → is_lt r ≡ false → r ≢ Less
not_lt r f e = let t = ap is_lt e in cc (t, f)

module _ {K V A : Type 0} where
  -- what was cut off is put behind its separator
  pub inserted : (f g : List (K × V)) (ms mr ns os : List (K × Vec (K × V) A)) (at cut : ℕ) (behind : K × Vec (K × V) A) (d : K × V) → mr ≡ ms → at ≤ length mr
      → in_runs g (viewed ns) ≡ with_run f (viewed mr) at (take cut (run_at f (viewed mr) at)) → behind.1.items ≡ drop cut (run_at f (viewed mr) at)
      → behind.0 ≡ (get_or (run_at f (viewed mr) at) cut d).0 → os ≡ insert ns at behind
      → in_runs g (viewed os) ≡ cut_run f (viewed ms) at cut (get_or (run_at f (viewed ms) at) cut d).0
  inserted f g ms mr ns os at cut behind d same le front back key is =
      let len = ap (λ v. length v.1) front ∙ length_with f (viewed mr) at (take cut (run_at f (viewed mr) at)) in
      let here : at ≤ length ns = omega (arith, len, length_viewed ns, length_viewed mr) in
      let w : at ≤ length (viewed mr) = omega (arith, length_viewed mr, le) in
      ap (λ l. in_runs g (viewed l)) is ∙ ap (in_runs g) (viewed_insert ns at behind here)
      ∙ (λ i. in_runs (front i).0 (insert (front i).1 at (key i, back i)))
      ∙ insert_cut f (viewed mr) at cut (get_or (run_at f (viewed mr) at) cut d).0 w
      ∙ ap (λ l. cut_run f (viewed l) at cut (get_or (run_at f (viewed l) at) cut d).0) same

module _ {K V : Type 0} where
  -- the separator at a cut
  pub separator_of : (x s : K) (c : List (K × V) × List (K × List (K × V))) (run : List (K × V)) (ms : List (K × List (K × V))) (at cut : ℕ) → ((d : K × List (K × V)) → x ≡ (get_or c.1 at d).0) → c ≡ cut_run run ms at cut s → at ≤ length ms → x ≡ s
  separator_of x s c run ms at cut at_any is le =
      let d : K × List (K × V) = (s, []) in
      at_any d ∙ ap (λ (v : List (K × V) × List (K × List (K × V))). (get_or v.1 at d).0) is ∙ cut_separator run ms at cut s d le

  module _ {T E : Type 0} (r : Result T E) where
    pub ok_first : (new cut : List (K × V)) (ms : List (K × List (K × V))) → OnOk r (new ≡ cut) → OnOk r (in_runs new ms ≡ in_runs cut ms)
    ok_first new cut ms h = on_ok_weaker r (ap (λ l. in_runs l ms)) h

    pub err_first : {A : Type 0} (new old : Vec (K × V) A) (ms : List (K × List (K × V))) → OnErr r (new ≡ old) → OnErr r (in_runs new.items ms ≡ in_runs old.items ms)
    err_first new old ms h = on_err_weaker r (ap (λ v. in_runs v.items ms)) h

    pub ok_behind : (w : List (K × V) × List (K × List (K × V))) (f : List (K × V)) (ms : List (K × List (K × V))) (at : ℕ) (new cut : List (K × V)) → w ≡ with_run f ms at new → OnOk r (new ≡ cut) → OnOk r (w ≡ with_run f ms at cut)
    ok_behind w f ms at new cut is h = on_ok_weaker r (λ e. is ∙ ap (with_run f ms at) e) h

    pub err_behind : {A : Type 0} (w : List (K × V) × List (K × List (K × V))) (f : List (K × V)) (ms : List (K × List (K × V))) (at : ℕ) (new old : Vec (K × V) A) → w ≡ with_run f ms at new.items → run_at f ms at ≡ old.items → OnErr r (new ≡ old) → OnErr r (w ≡ in_runs f ms)
    err_behind w f ms at new old is here h = on_err_weaker r (λ e. is ∙ ap (λ v. with_run f ms at v.items) e ∙ ap (with_run f ms at) (sym here) ∙ with_same f ms at) h
