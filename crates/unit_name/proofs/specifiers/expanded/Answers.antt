use Rattle.std.proofs.Common.{◌++◌, ◌∷◌, ◌≡◌}
use Rattle.unit_name.proofs.Prelude.{[], ap, append-nil, expand, expand-nil, List, nil_from_length, option_map, put_before, Some, specifier, sym, ℕ, ◌∙◌}
use Rattle.unit_name.proofs.{specifiers.expanded.Goals.{in_default-split_first-via-in-Some-split_first+else-byte-eq37, in_default-split_first-via-in_default-split_first}, Steps.{byte_expands, last_expands, pair_expands, pushed_before, some_first}}
use Rattle.unit_name.proofs.specifiers.expanded.Goals as goal

pub push_specifier-requires : goal.push_specifier-requires
push_specifier-requires c =
    let pair = pair_expands c.loop-byte.rest.now c.in-Some.after.now c.in-Some-split_first.beyond.now c.in-Some.byte.now c.in-Some-split_first.letter.now c.args.name.now c.in-Some.ensures.cases.0 c.in-Some-split_first.ensures.cases.0 c.if-byte-eq37.true in
    record { some = some_first (specifier c.in-Some-split_first.letter.now c.args.name.now) (expand c.in-Some-split_first.beyond.now c.args.name.now) (expand c.args.value.now c.args.name.now) c.loop-byte.expanded.items (sym (ap (option_map (λ (v : List ℕ). c.loop-byte.expanded.items ++ v)) pair) ∙ c.loop-byte.invariant) c.requires.possible }

pub loop-byte-preserved-then-byte-eq37 : goal.loop-byte-preserved-then-byte-eq37
loop-byte-preserved-then-byte-eq37 c =
    let pair = pair_expands c.loop-byte.rest.now c.in-Some.after.now c.in-Some-split_first.beyond.now c.in-Some.byte.now c.in-Some-split_first.letter.now c.args.name.now c.in-Some.ensures.cases.0 c.in-Some-split_first.ensures.cases.0 c.if-byte-eq37.true in
    pushed_before (specifier c.in-Some-split_first.letter.now c.args.name.now) _ _ _ c.in_ok-push_specifier-in-Some-split_first.ensures.pushed
    ∙ sym (ap (option_map (λ (v : List ℕ). c.loop-byte.expanded.items ++ v)) pair) ∙ c.loop-byte.invariant

pub loop-byte-preserved : goal.loop-byte-preserved
loop-byte-preserved c =
    let rest = c.loop-byte.rest.now in
    let after = c.in-Some.after.now in
    let byte = c.in-Some.byte.now in
    let name = c.args.name.now in
    let alone : expand rest name ≡ put_before (Some (byte ∷ [])) (expand after name) =
    elim c.in_default-split_first.branch [
      | in_default-split_first-via-in-Some-split_first+else-byte-eq37 w ↦ byte_expands rest after byte name c.in-Some.ensures.cases.0 w.if-byte-eq37.false
      | in_default-split_first-via-in_default-split_first w ↦ last_expands rest after byte name c.in-Some.ensures.cases.0 w.in_default-split_first.ensures.cases
    ] in
    pushed_before (Some (byte ∷ [])) _ _ _ c.in_ok-push-in_default-split_first.ensures.items
    ∙ sym (ap (option_map (λ (v : List ℕ). c.loop-byte.expanded.items ++ v)) alone) ∙ c.loop-byte.invariant

pub returns : goal.returns
returns c =
    let nil = nil_from_length c.loop-byte.rest.now c.in_default.ensures.cases in
    let end = ap (λ r. option_map (λ (v : List ℕ). c.loop-byte.expanded.items ++ v) (expand r c.args.name.now)) nil ∙ ap (option_map (λ (v : List ℕ). c.loop-byte.expanded.items ++ v)) (expand-nil c.args.name.now) in
    record { expanded = sym c.loop-byte.invariant ∙ end ∙ ap (λ x. Some x) (append-nil c.loop-byte.expanded.items) }
