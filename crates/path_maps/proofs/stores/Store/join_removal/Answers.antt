use Rattle.std.proofs.Common.{◌+◌, ◌≡◌}
use Rattle.path_maps.proofs.{Edits.{joined_edit, kept_edit}, Prelude.{ap, cond, Content, Edit, OnTrue_from, PlaceParts, sym, true, with_edit, ◌∙◌}, Removals.{removal_visible, visible_held}}
use Rattle.std.specs.FinMap as finmap
use Rattle.path_maps.proofs.stores.Store.join_removal.Goals as goal

pub returns-then-removed-clause-visible : goal.returns-then-removed-clause-visible
returns-then-removed-clause-visible c =
    let q : PlaceParts = record { scope = c.args.place.now.scope; path = record { rank = c.parts-rank.result.0; folder = c.parts-rank.result.1.now; name = c.parts-rank.result.2.now } } in
    let at : q ≡ c.args.place.now = λ i. record { scope = c.args.place.now.scope; path = record { rank = c.parts-rank.ensures.rank i; folder = c.parts-rank.ensures.folder i; name = c.parts-rank.ensures.name i } } in
    c.make-removed.ensures.made
    ∙ removal_visible c.self.inside.scopes c.self.invariant.scopes c.args.self.now c.self.view_is q c.args.place.now at c.gone-content.result c.gone-content.ensures.made

pub returns-else-removed-clause-visible : goal.returns-else-removed-clause-visible
returns-else-removed-clause-visible c =
    let q : PlaceParts = record { scope = c.args.place.now.scope; path = record { rank = c.parts-rank.result.0; folder = c.parts-rank.result.1.now; name = c.parts-rank.result.2.now } } in
    let at : q ≡ c.args.place.now = λ i. record { scope = c.args.place.now.scope; path = record { rank = c.parts-rank.ensures.rank i; folder = c.parts-rank.ensures.folder i; name = c.parts-rank.ensures.name i } } in
    c.make-removed.ensures.made
    ∙ removal_visible c.self.inside.scopes c.self.invariant.scopes c.args.self.now c.self.view_is q c.args.place.now at c.gone-content.result c.gone-content.ensures.made

pub returns-then-removed-clause-removed : goal.returns-then-removed-clause-removed
returns-then-removed-clause-removed c =
    let q : PlaceParts = record { scope = c.args.place.now.scope; path = record { rank = c.parts-rank.result.0; folder = c.parts-rank.result.1.now; name = c.parts-rank.result.2.now } } in
    let at : q ≡ c.args.place.now = λ i. record { scope = c.args.place.now.scope; path = record { rank = c.parts-rank.ensures.rank i; folder = c.parts-rank.ensures.folder i; name = c.parts-rank.ensures.name i } } in
    let edit : Edit = record { place = c.args.place.now; version = c.args.version; content = c.gone-content.result } in
    OnTrue_from c.make-removed.result _
    (λ _. joined_edit c.self.inside.scopes c.make-removed.new.map c.args.self.now edit q at c.self.view_is c.self.invariant.scopes c.make-removed.ensures.valid c.if-removed.ensures.joined
    ∙ ap (λ (content : Content). with_edit c.args.self.now (record edit { content = content })) c.gone-content.ensures.made)

pub invariant_of-self : goal.invariant_of-self
invariant_of-self c =
    let q : PlaceParts = record { scope = c.args.place.now.scope; path = record { rank = c.parts-rank.result.0; folder = c.parts-rank.result.1.now; name = c.parts-rank.result.2.now } } in
    let at : q ≡ c.args.place.now = λ i. record { scope = c.args.place.now.scope; path = record { rank = c.parts-rank.ensures.rank i; folder = c.parts-rank.ensures.folder i; name = c.parts-rank.ensures.name i } } in
    let edit : Edit = record { place = c.args.place.now; version = c.args.version; content = c.gone-content.result } in
    let visible = removal_visible c.self.inside.scopes c.self.invariant.scopes c.args.self.now c.self.view_is q c.args.place.now at c.gone-content.result c.gone-content.ensures.made in
    let held : finmap.contains_key c.args.self.now c.args.place.now ≡ true = visible_held (finmap.get c.args.self.now c.args.place.now) (sym visible ∙ sym c.make-removed.ensures.made ∙ c.if-removed.true) in
    let counted : c.self.inside.len ≡ cond (finmap.contains_key c.args.self.now c.args.place.now) (finmap.len c.args.self.now) (finmap.len c.args.self.now + 1) =
    c.self.invariant.counted.counted ∙ ap (λ s. finmap.len s) c.self.view_is ∙ sym (ap (λ b. cond b (finmap.len c.args.self.now) (finmap.len c.args.self.now + 1)) held) in
    let well_formed = c.self.invariant.counted.paths c.args.place.now (ap (λ s. finmap.contains_key s c.args.place.now) c.self.view_is ∙ held) in
    rw c.max-self-inside.ensures
    (kept_edit c.self.inside.scopes c.make-removed.new.map c.args.self.now c.self.inside.len c.self.inside.high c.self.inside.len edit q at well_formed c.self.view_is c.self.invariant c.make-removed.ensures.valid c.if-removed.ensures.joined counted c.self.invariant.fits)
