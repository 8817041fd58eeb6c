use Rattle.std.proofs.Common.{◌+◌, ◌-◌, ◌^◌, ◌≡◌, ◌≤◌}
use Rattle.path_maps.proofs.{Edits.{joined_edit, kept_edit, one_held}, LookUps.{added_new, counted_with, fits_with, held_not_new, is_new}, Prelude.{ap, arith, cond, Edit, IsPath, IsSome, None, PathParts, PlaceParts, subst, sym, with_edit, ◌∙◌}}
use Rattle.std.specs.FinMap as finmap
use Rattle.path_maps.proofs.stores.Store.join_edit.Goals as goal

pub invariant_of-self-2 : goal.invariant_of-self-2
invariant_of-self-2 c =
    let q : PlaceParts = record { scope = c.into_parts-scope.result.0; path = record { rank = c.into_parts-rank.result.0; folder = c.into_parts-rank.result.1; name = c.into_parts-rank.result.2 } } in
    let e : Edit = record { place = q; version = c.into_parts-place.result.1; content = c.into_parts-place.result.2 } in
    let scope = c.into_parts-scope.ensures.scope ∙ ap (λ (p : PlaceParts). p.scope) c.into_parts-place.ensures.place in
    let path = c.into_parts-rank.ensures.parts ∙ c.into_parts-scope.ensures.path ∙ ap (λ (p : PlaceParts). p.path) c.into_parts-place.ensures.place in
    let parts : q ≡ c.args.edit.place = λ i. record { scope = scope i; path = path i } in
    let well_formed = subst (λ (p : PathParts). IsPath p) (sym c.into_parts-rank.ensures.parts) c.into_parts-rank.ensures.well_formed in
    let new = added_new c.in_ok-added.added (is_new c.self.inside.scopes c.self.invariant.scopes c.args.self.now c.self.view_is q) (one_held e).not_least c.in_ok-added.ensures.added in
    let len : c.self.inside.len ≡ finmap.len c.args.self.now = c.self.invariant.counted.counted ∙ ap (λ s. finmap.len s) c.self.view_is in
    let counted : c.self.inside.len + c.from.result ≡ cond (finmap.contains_key c.args.self.now q) (finmap.len c.args.self.now) (finmap.len c.args.self.now + 1) =
    (λ i. len i + c.from.ensures i)
    ∙ counted_with c.self.inside.scopes c.self.invariant.scopes c.args.self.now c.self.view_is q c.in_ok-added.added new in
    let room = subst (λ (p : PlaceParts). finmap.get c.args.self.now p ≡ None → finmap.len c.args.self.now + 1 ≤ 2 ^ 64 - 1) (sym parts) c.if-is_full_for.ensures.room in
    let now = c.self.invariant.fits in
    let most : finmap.len c.args.self.now ≤ 2 ^ 64 - 1 = omega (arith, len, now) in
    let more = fits_with c.self.inside.scopes c.self.invariant.scopes c.args.self.now c.self.view_is q (2 ^ 64 - 1) c.in_ok-added.added new most room in
    let from = c.from.ensures in
    let fits : c.self.inside.len + c.from.result ≤ 2 ^ 64 - 1 = omega (arith, more, from, len) in
    rw c.max-self-inside.ensures
    (kept_edit c.self.inside.scopes c.join_to.new.map c.args.self.now c.self.inside.len c.self.inside.high (c.self.inside.len + c.from.result) e q
    (λ _. q) well_formed c.self.view_is c.self.invariant c.in_ok-added.ensures.valid c.in_ok-added.ensures.ok counted fits)

pub overflow_add-self : goal.overflow_add-self
overflow_add-self c =
    let q : PlaceParts = record { scope = c.into_parts-scope.result.0; path = record { rank = c.into_parts-rank.result.0; folder = c.into_parts-rank.result.1; name = c.into_parts-rank.result.2 } } in
    let e : Edit = record { place = q; version = c.into_parts-place.result.1; content = c.into_parts-place.result.2 } in
    let scope = c.into_parts-scope.ensures.scope ∙ ap (λ (p : PlaceParts). p.scope) c.into_parts-place.ensures.place in
    let path = c.into_parts-rank.ensures.parts ∙ c.into_parts-scope.ensures.path ∙ ap (λ (p : PlaceParts). p.path) c.into_parts-place.ensures.place in
    let parts : q ≡ c.args.edit.place = λ i. record { scope = scope i; path = path i } in
    let new = added_new c.in_ok-added.added (is_new c.self.inside.scopes c.self.invariant.scopes c.args.self.now c.self.view_is q) (one_held e).not_least c.in_ok-added.ensures.added in
    let len : c.self.inside.len ≡ finmap.len c.args.self.now = c.self.invariant.counted.counted ∙ ap (λ s. finmap.len s) c.self.view_is in
    let room = subst (λ (p : PlaceParts). finmap.get c.args.self.now p ≡ None → finmap.len c.args.self.now + 1 ≤ 2 ^ 64 - 1) (sym parts) c.if-is_full_for.ensures.room in
    let range = c.self.ranges.1.0.1 in
    let most : finmap.len c.args.self.now ≤ 2 ^ 64 - 1 = omega (arith, len, range) in
    let fits = fits_with c.self.inside.scopes c.self.invariant.scopes c.args.self.now c.self.view_is q (2 ^ 64 - 1) c.in_ok-added.added new most room in
    let from = c.from.ensures in
    omega (arith, fits, from, len)

pub returns-clause-ok : goal.returns-clause-ok
returns-clause-ok c =
    let q : PlaceParts = record { scope = c.into_parts-scope.result.0; path = record { rank = c.into_parts-rank.result.0; folder = c.into_parts-rank.result.1; name = c.into_parts-rank.result.2 } } in
    let e : Edit = record { place = q; version = c.into_parts-place.result.1; content = c.into_parts-place.result.2 } in
    let scope = c.into_parts-scope.ensures.scope ∙ ap (λ (p : PlaceParts). p.scope) c.into_parts-place.ensures.place in
    let path = c.into_parts-rank.ensures.parts ∙ c.into_parts-scope.ensures.path ∙ ap (λ (p : PlaceParts). p.path) c.into_parts-place.ensures.place in
    let whole : e ≡ c.args.edit = λ i. record { place = record { scope = scope i; path = path i }; version = c.into_parts-place.ensures.version i; content = c.into_parts-place.ensures.content i } in
    joined_edit c.self.inside.scopes c.join_to.new.map c.args.self.now e
    q (λ _. q) c.self.view_is c.self.invariant.scopes c.in_ok-added.ensures.valid c.in_ok-added.ensures.ok
    ∙ ap (λ (it : Edit). with_edit c.args.self.now it) whole

pub returns-in_err-added-clause-held : goal.returns-in_err-added-clause-held
returns-in_err-added-clause-held c held =
    let q : PlaceParts = record { scope = c.into_parts-scope.result.0; path = record { rank = c.into_parts-rank.result.0; folder = c.into_parts-rank.result.1; name = c.into_parts-rank.result.2 } } in
    let scope = c.into_parts-scope.ensures.scope ∙ ap (λ (p : PlaceParts). p.scope) c.into_parts-place.ensures.place in
    let path = c.into_parts-rank.ensures.parts ∙ c.into_parts-scope.ensures.path ∙ ap (λ (p : PlaceParts). p.path) c.into_parts-place.ensures.place in
    let parts : q ≡ c.args.edit.place = λ i. record { scope = scope i; path = path i } in
    let is_ok = c.in_err-added.ensures.in_place tt
    (held_not_new c.self.inside.scopes c.self.invariant.scopes c.args.self.now c.self.view_is q
    (subst (λ (p : PlaceParts). IsSome (finmap.get c.args.self.now p)) (sym parts) held)) in
    cc (is_ok)
