-- Steps of writing all of some bytes.
use Rattle.std.proofs.Common.{◌++◌, ◌≡◌}
use Rattle.script_pipes.proofs.Prelude.{ap, append_assoc, Appends, Appends-append, AppendsPrefix, AppendsPrefix-keeps, drop, Keeps, List, Option, subst, sym, take, take-append-drop, ℕ, ◌∙◌}

-- The state of the loop: some bytes were written, no write failed, and the rest remains.
pub record IsWrittenTo (old now : Option (List ℕ)) (refused_before refused : ℕ) (bytes rest : List ℕ) : Type 0 where
  pub done : List ℕ
  pub parts : bytes ≡ done ++ rest
  pub appends : Appends old now done
  pub unrefused : refused ≡ refused_before

-- a write accepted the first n bytes of the rest
pub write_more : (old now next : Option (List ℕ)) (refused_before refused refused_next : ℕ) (bytes rest : List ℕ) (n : ℕ) → IsWrittenTo old now refused_before refused bytes rest
    → Appends now next (take n rest) → refused_next ≡ refused → IsWrittenTo old next refused_before refused_next bytes (drop n rest)
write_more old now next refused_before refused refused_next bytes rest n so_far took same = record {
  done = so_far.done ++ take n rest;
  parts = so_far.parts ∙ ap (λ v. so_far.done ++ v) (sym (take-append-drop n rest)) ∙ sym (append_assoc so_far.done (take n rest) (drop n rest));
  appends = Appends-append old now next so_far.done (take n rest) so_far.appends took;
  unrefused = same ∙ so_far.unrefused;
}

-- a write failed
pub write_stops : (old now next : Option (List ℕ)) (refused_before refused : ℕ) (bytes rest : List ℕ) → IsWrittenTo old now refused_before refused bytes rest → Keeps now next → AppendsPrefix old next bytes
write_stops old now next refused_before refused bytes rest so_far kept =
    subst (λ v. AppendsPrefix old next v) (sym so_far.parts) (AppendsPrefix-keeps old now next so_far.done rest so_far.appends kept)
