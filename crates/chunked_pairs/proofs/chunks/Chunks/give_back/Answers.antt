use Rattle.std.proofs.Common.{◌<◌, ◌==◌, ◌∷◌, ◌≡◌}
use Rattle.chunked_pairs.proofs.{Lasts.{back_none, back_some}, Prelude.{[], ap, arith, eq-eqb, eqb-true, false, length, List, sym, with_run, ℕ, ◌∙◌}}
use Rattle.chunked_pairs.proofs.chunks.Chunks.give_back.Goals as goal

pub returns-then-is_empty : goal.returns-then-is_empty
returns-then-is_empty g c =
    let none = eqb-true c.args.run.len 0 (sym c.is_empty.ensures ∙ c.if-is_empty.true) in
    record { back = c.drop_last.ensures.left ∙ sym (back_none c.args.self.now.0 c.args.self.now.1 c.args.run.items (omega (arith, none))) }

some_of : {A : Type 0} (xs : List A) (n : ℕ) → n ≡ length xs → (n == 0) ≡ false → 0 < length xs
some_of [] n e h = let t = eq-eqb n 0 e in cc (t, h)
some_of (x ∷ xs) n e h = omega arith

pub returns : goal.returns
returns g c =
    let filled = c.if-is_empty.ensures in
    let some : 0 < length c.args.run.items = some_of c.args.run.items c.args.run.len (omega arith) (sym filled) in
    record {
      back =
          c.put.ensures.put ∙ ap (λ n. with_run c.args.self.now.0 c.args.self.now.1 n c.args.run.items) c.last_run-last.ensures.last
          ∙ sym (back_some c.args.self.now.0 c.args.self.now.1 c.args.run.items some);
    }
