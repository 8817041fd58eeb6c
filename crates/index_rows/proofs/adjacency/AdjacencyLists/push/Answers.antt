use Rattle.std.proofs.Common.{◌++◌, ◌∷◌, ◌≡◌}
use Rattle.index_rows.proofs.{Cutting.{cut_push, ends_push}, Prelude.{[], ap, AreEnds, arith, cut, length, length-append, List, subst, sym, ℕ, ◌∙◌}}
use Rattle.index_rows.proofs.adjacency.AdjacencyLists.push.Goals as goal

-- the end of the new list
counted : (c : goal.In_ok-push) → c.len.result ≡ length c.extend_from_slice.new.self.items
counted c = omega (arith, c.len.ensures, c.extend_from_slice.new.self.ok)

end_is : (c : goal.In_ok-push) → c.len.result ≡ length (c.self.inside.targets.items ++ c.args.nodes.now)
end_is c = counted c ∙ ap (λ (xs : List ℕ). length xs) c.in_ok-extend_from_slice.ensures.items

ends_are : (c : goal.In_ok-push) → c.push.new.self.items ≡ c.self.inside.ends.items ++ c.len.result ∷ []
ends_are c = c.in_ok-push.ensures.items ∙ ap (λ (xs : List ℕ). xs ++ c.len.result ∷ []) c.in_ok-reserve.ensures.items

pub invariant_of-self-2 : goal.invariant_of-self-2
invariant_of-self-2 c =
    let count = length-append c.self.inside.targets.items c.args.nodes.now in
    let end = end_is c in
    let P : List ℕ → Type 0 = λ es. AreEnds 0 es (length c.extend_from_slice.new.self.items) in
    let Q : ℕ → Type 0 = λ n. AreEnds 0 (c.self.inside.ends.items ++ c.len.result ∷ []) n in
    subst P (sym (ends_are c)) (subst Q (counted c) (ends_push 0 c.self.inside.ends.items (length c.self.inside.targets.items) c.len.result c.self.invariant (omega (arith, count, end))))

pub returns : goal.returns
returns c = record {
  added =
      ap (λ (es : List ℕ). cut 0 es c.extend_from_slice.new.self.items) (ends_are c)
      ∙ ap (λ (ts : List ℕ). cut 0 (c.self.inside.ends.items ++ c.len.result ∷ []) ts) c.in_ok-extend_from_slice.ensures.items
      ∙ cut_push 0 c.self.inside.ends.items c.self.inside.targets.items c.args.nodes.now c.len.result c.self.invariant (end_is c)
      ∙ ap (λ (rs : List (List ℕ)). rs ++ c.args.nodes.now ∷ []) c.self.view_is;
}
