-- The outcome of a step, with one lemma for each word of the meaning.
use Rattle.std.proofs.Common.{◌++◌, ◌+◌, ◌<◌, ◌==◌, ◌∷◌, ◌≡◌, ◌≢◌}
use Rattle.world_law.specs.declared.events.Event.TheVariants.{Put}
use Rattle.fleet_script.proofs.Prelude.{[], ap, AtNode, AtPlace, AtPlaces, bad_text, BadLink, BadText, Bool, bytes_eq, codes, Component, cond, Content, Depth, Directory, Edit, EditFault, EntryMap, eq-eqb, eqb-true, Equal, Equal-is, Err, false, Fault, fault_of_edit, fault_of_place, FileTooLarge, get_or, Gives, Global, Goes, Gone, happened, HasNoNode, HasNoSite, held, high_of, Holds, HostName, inl, inr, is_eq, is_eq-slice_cmp, is_some, is_used, IsErrOf, IsFileOf, IsLinkTo, IsNodeNamed, IsNoFile, IsNoLink, IsPlaceFault, IsRead, IsSaid, IsSite, IsSome, Keeps, length, LineRefusal, List, MatchBool, MatchOption, MatchResult, Memory, Names, nat_cmp, nat_cmp-IsAntisymmetric, nat_cmp_is, ne_eqb, next_edit, next_version, NodeTaken, None, Nothing, Ok, ok_line, Option, Outcome, place_of, PlaceFault, PlaceParts, places_of, Profile, Reads, refl, Refused, Refuses, RefusesPlace, Replicated, Result, ScriptWorld, set, SetsProfile, slice_cmp, slice_get, Some, subst, sum_of, sym, too_large, true, true≢false, UnknownNode, Vec, Version, VersionsSpent, visible_at, with_edit, with_new_node, with_profile, with_put, WithFile, without_memory, WithTarget, WithText, WriterTaken, Writes, ℕ, ◌∙◌}
use Rattle.fleet_script.proofs.Nodes.{holds_node, holds_profile, holds_put, set_same}
use Rattle.load_places.specs.declared.places.PlaceFault.TheVariants as place
use Rattle.replica_store.specs.declared.replicas.EditFault.TheVariants as edit

-- steps, which constrain the outcome and the new world
abbrev pub Step : Type 1
Step = ScriptWorld → Outcome → ScriptWorld → Type 0

abbrev pub Rendered : Type 0
Rendered = Result (Vec ℕ Global) Fault

-- what holds of the outcome
abbrev pub IsRendered : Rendered → (Outcome → Type 0) → Type 0
IsRendered = IsSaid (λ (text : Vec ℕ Global). text.items)

pub match_true : (b : Bool) (P Q : Type 0) → b ≡ true → P → MatchBool b P Q
match_true true P Q e p = p
match_true false P Q e p = absurd (true≢false (sym e))

pub match_false : (b : Bool) (P Q : Type 0) → b ≡ false → Q → MatchBool b P Q
match_false true P Q e q = absurd (true≢false e)
match_false false P Q e q = q

pub refuses : (world : ScriptWorld) (refusal : LineRefusal) → Refuses world refusal (Err refusal) world
refuses world refusal = record { outcome_is = refl; world_is = refl }

-- a step that follows from another
pub weaker : (shell after : Keeps) (r : Rendered) (S T : Step) → ((old : ScriptWorld) → Holds shell old → (outcome : Outcome) (new : ScriptWorld) → S old outcome new → T old outcome new) → Goes shell after S r → Goes shell after T r
weaker shell after (Ok text) S T f go = λ world h. (let next = go world h in (next.0, next.1, f world h (Ok text.items) next.0 next.2))
weaker shell after (Err (Refused refusal)) S T f go = λ world h. (let next = go world h in (next.0, next.1, f world h (Err refusal) next.0 next.2))
weaker shell after (Err Memory) S T f go = tt

-- a fault that is a refusal, or that memory ran out
pub refused : (shell : Keeps) (refusal : LineRefusal) (fault : Fault) (S : Step) → fault ≡ Refused refusal → ((old : ScriptWorld) → Holds shell old → S old (Err refusal) old) → Goes shell shell S (Err fault)
refused shell refusal fault S e f = subst (λ (g : Fault). Goes shell shell S (Err g)) (sym e) (λ world h. (world, h, f world h))

pub no_memory : (shell after : Keeps) (fault : Fault) (S : Step) → fault ≡ Memory → Goes shell after S (Err fault)
no_memory shell after fault S e = subst (λ (g : Fault). Goes shell after S (Err g)) (sym e) tt

module _ (shell after : Keeps) (r : Rendered) where
  -- the node with a name
  pub with_node : (name : List ℕ) (at : ℕ) (P : ℕ → Step) → shell.number_of name ≡ Some at → Goes shell after (P at) r → Goes shell after (λ old outcome new. AtNode old outcome new name (λ k. P k old outcome new)) r
  with_node name at P some = weaker shell after r (P at) _ (λ old h outcome new p. subst (λ (o : Option ℕ). MatchOption o (Refuses old UnknownNode outcome new) (λ k. P k old outcome new)) (sym some ∙ h.numbers name) p)

  -- the place that a text writes, and the places that words write
  pub with_written : (text : List ℕ) (p : PlaceParts) (P : PlaceParts → Step) → place_of text ≡ Ok p → Goes shell after (P p) r → Goes shell after (λ old outcome new. AtPlace old outcome new text (λ q. P q old outcome new)) r
  with_written text p P read = weaker shell after r (P p) _ (λ old h outcome new q. subst (λ (x : Result PlaceParts PlaceFault). MatchResult x (λ q. P q old outcome new) (RefusesPlace old outcome new)) (sym read) q)

  pub with_all_written : (texts : List (List ℕ)) (ps : List PlaceParts) (P : List PlaceParts → Step) → places_of texts ≡ Ok ps → Goes shell after (P ps) r → Goes shell after (λ old outcome new. AtPlaces old outcome new texts (λ q. P q old outcome new)) r
  with_all_written texts ps P read = weaker shell after r (P ps) _ (λ old h outcome new q. subst (λ (x : Result (List PlaceParts) PlaceFault). MatchResult x (λ q. P q old outcome new) (RefusesPlace old outcome new)) (sym read) q)

  -- a place that a text writes, of the node with a name
  pub with_site : (name text : List ℕ) (at : ℕ) (p : PlaceParts) (P : ℕ → PlaceParts → Step)
      → IsSite shell name text at p → Goes shell after (P at p) r
      → Goes shell after (λ old outcome new. AtNode old outcome new name (λ k. AtPlace old outcome new text (λ q. P k q old outcome new))) r
  with_site name text at p P is go =
      with_node name at (λ k old outcome new. AtPlace old outcome new text (λ q. P k q old outcome new)) is.named
      (with_written text p (P at) is.written go)

  -- the file that a text spells, and the link to a target
  pub with_file : (text : List ℕ) (content : Content) (P : Content → Step) → IsFileOf text content → Goes shell after (P content) r
      → Goes shell after (λ old outcome new. WithText old outcome new text (λ bytes. WithFile old outcome new bytes (λ c. P c old outcome new))) r
  with_file text content P file = weaker shell after r (P content) _ (λ old h outcome new p. inl (file.bytes, file.spelled, match_true _ _ _ file.fits (subst (λ (c : Content). P c old outcome new) file.content_is p)))

  pub with_link : (target : List ℕ) (content : Content) (P : Content → Step) → IsLinkTo target content → Goes shell after (P content) r
      → Goes shell after (λ old outcome new. WithTarget old outcome new target (λ c. P c old outcome new)) r
  with_link target content P link = weaker shell after r (P content) _ (λ old h outcome new p. match_true _ _ _ link.fits (subst (λ (c : Content). P c old outcome new) link.content_is p))

module _ (shell : Keeps) (fault : Fault) where
  pub without_node : (name : List ℕ) (P : ℕ → Step) → HasNoNode shell name fault → Goes shell shell (λ old outcome new. AtNode old outcome new name (λ k. P k old outcome new)) (Err fault)
  without_node name P (inl e) = no_memory shell shell fault _ e
  without_node name P (inr (e, none)) = refused shell UnknownNode fault _ e (λ old h. subst (λ (o : Option ℕ). MatchOption o (Refuses old UnknownNode (Err UnknownNode) old) (λ k. P k old (Err UnknownNode) old)) (sym none ∙ h.numbers name) (refuses old UnknownNode))

  refuses_place : (f : PlaceFault) (S : Step) → fault ≡ fault_of_place f → ((old : ScriptWorld) (outcome : Outcome) → RefusesPlace old outcome old f → S old outcome old) → Goes shell shell S (Err fault)
  refuses_place place.HostName S e s = refused shell HostName fault S e (λ old h. s old (Err HostName) (refuses old HostName))
  refuses_place place.Directory S e s = refused shell Directory fault S e (λ old h. s old (Err Directory) (refuses old Directory))
  refuses_place place.Depth S e s = refused shell Depth fault S e (λ old h. s old (Err Depth) (refuses old Depth))
  refuses_place place.Component S e s = refused shell Component fault S e (λ old h. s old (Err Component) (refuses old Component))
  refuses_place place.Memory S e s = no_memory shell shell fault S e

  pub without_written : (text : List ℕ) (P : PlaceParts → Step) → IsPlaceFault (place_of text) fault → Goes shell shell (λ old outcome new. AtPlace old outcome new text (λ q. P q old outcome new)) (Err fault)
  without_written text P (inl e) = no_memory shell shell fault _ e
  without_written text P (inr (f, read, e)) = refuses_place f _ e (λ old outcome r. subst (λ (x : Result PlaceParts PlaceFault). MatchResult x (λ q. P q old outcome old) (RefusesPlace old outcome old)) (sym read) r)

  pub without_site : (name text : List ℕ) (P : ℕ → PlaceParts → Step) → HasNoSite shell name text fault
      → Goes shell shell (λ old outcome new. AtNode old outcome new name (λ k. AtPlace old outcome new text (λ q. P k q old outcome new))) (Err fault)
  without_site name text P (inl none) = without_node name (λ k old outcome new. AtPlace old outcome new text (λ q. P k q old outcome new)) none
  without_site name text P (inr (at, named, bad)) =
      with_node shell shell (Err fault) name at (λ k old outcome new. AtPlace old outcome new text (λ q. P k q old outcome new)) named (without_written text (P at) bad)

  pub without_all_written : (texts : List (List ℕ)) (P : List PlaceParts → Step) → IsPlaceFault (places_of texts) fault → Goes shell shell (λ old outcome new. AtPlaces old outcome new texts (λ q. P q old outcome new)) (Err fault)
  without_all_written texts P (inl e) = no_memory shell shell fault _ e
  without_all_written texts P (inr (f, read, e)) = refuses_place f _ e (λ old outcome r. subst (λ (x : Result (List PlaceParts) PlaceFault). MatchResult x (λ q. P q old outcome old) (RefusesPlace old outcome old)) (sym read) r)

  pub without_file : (text : List ℕ) (P : Content → Step) → IsNoFile text fault → Goes shell shell (λ old outcome new. WithText old outcome new text (λ bytes. WithFile old outcome new bytes (λ c. P c old outcome new))) (Err fault)
  without_file text P (without_memory e) = no_memory shell shell fault _ e
  without_file text P (bad_text bad e) = refused shell BadText fault _ e (λ old h. inr (bad, refuses old BadText))
  without_file text P (too_large bytes spelled large e) = refused shell FileTooLarge fault _ e (λ old h. inl (bytes, spelled, match_false _ _ _ large (refuses old FileTooLarge)))

  pub without_link : (target : List ℕ) (P : Content → Step) → IsNoLink target fault → Goes shell shell (λ old outcome new. WithTarget old outcome new target (λ c. P c old outcome new)) (Err fault)
  without_link target P (inl e) = no_memory shell shell fault _ e
  without_link target P (inr (bad, e)) = refused shell BadLink fault _ e (λ old h. match_false _ _ _ bad (refuses old BadLink))

-- ---- commands that only read

read_rendered : (shell : Keeps) (r : Rendered) (i : ℕ) (node : Replicated) (Renders : EntryMap → Outcome → Type 0) → slice_get shell.nodes i ≡ Some node
    → Goes shell shell (λ old outcome new. Renders node.store outcome × (new ≡ old)) r → Goes shell shell (λ old outcome new. IsRead (Renders (held old i)) old outcome new) r
read_rendered shell r i node Renders at = weaker shell shell r _ _ (λ old h outcome new p. record { rendered = subst (λ (s : EntryMap). Renders s outcome) (h.stores i node at) p.0; world_is = p.1 })

-- nothing happens
stays : (shell : Keeps) (r : Rendered) (P : Outcome → Type 0) → IsRendered r P → Goes shell shell (λ old outcome new. P outcome × (new ≡ old)) r
stays shell (Ok text) P p = λ world h. (world, h, (p, refl))
stays shell (Err (Refused refusal)) P p = λ world h. (world, h, (p, refl))
stays shell (Err Memory) P p = tt

-- a command that only reads answers what it may answer of the store of the node with this name
pub reads : (shell : Keeps) (r : Rendered) (name : List ℕ) (replica : Replicated) (s : EntryMap) (Renders : EntryMap → Outcome → Type 0) → IsNodeNamed shell name replica → s ≡ replica.store → IsRendered r (Renders s)
    → Goes shell shell (λ old outcome new. Reads old outcome new name Renders) r
reads shell r name replica s Renders is same rendered =
    with_node shell shell r name is.number (λ k old outcome new. IsRead (Renders (held old k)) old outcome new) is.named
    (read_rendered shell r is.number replica Renders is.there (stays shell r (Renders replica.store) (subst (λ (t : EntryMap). IsRendered r (Renders t)) same rendered)))

-- what is asked by the shell's profile is asked by the world's
pub by_its_profile : (shell after : Keeps) (r : Rendered) (name : List ℕ) (Renders : Profile → EntryMap → Outcome → Type 0)
    → Goes shell after (λ old outcome new. Reads old outcome new name (Renders shell.profile)) r
    → Goes shell after (λ old outcome new. Reads old outcome new name (Renders old.profile)) r
by_its_profile shell after r name Renders =
    weaker shell after r (λ old outcome new. Reads old outcome new name (Renders shell.profile)) (λ old outcome new. Reads old outcome new name (Renders old.profile))
    (λ old h outcome new read. subst (λ (profile : Profile). Reads old outcome new name (Renders profile)) h.profile read)

-- ---- writing

-- a node that stays as it was
pub set_again : (nodes : List Replicated) (i : ℕ) (node new : Replicated) → node ≡ get_or nodes i node → new ≡ node → set nodes i new ≡ nodes
set_again nodes i node new is same = ap (set nodes i) same ∙ set_same nodes i node is

module _ (shell : Keeps) (i : ℕ) (node : Replicated) (p : PlaceParts) (content : Content) (at : slice_get shell.nodes i ≡ Some node) where
  -- the node's edit in the world is the replica's
  edit_is : (world : ScriptWorld) → Holds shell world → ◌≡◌ {A = Edit} (record { place = p; version = next_version node; content = content }) (next_edit world i p content)
  edit_is world h = λ n. record { place = p; version = record { counter = high_of (h.stores i node at n) + 1; writer = sym (h.writers i node at) n }; content = content }

  pub wrote : (new : Replicated) (version : Version) (text : Vec ℕ Global) → i < length shell.nodes
      → high_of node.store ≢ 18446744073709551615 → version ≡ next_version node → text.items ≡ ok_line version
      → new ≡ with_put node (record { place = p; version = next_version node; content = content })
      → Goes shell (record shell { nodes = set shell.nodes i new }) (λ old outcome after. Writes old outcome after i p content) (Ok text)
  wrote new version text lt below v e put_in world h =
      let same = edit_is world h in (
        happened world (Put i (next_edit world i p content)),
        holds_put shell world h i p content node new lt at (ap (λ (r : Replicated). r.writer) put_in) (ap (λ (r : Replicated). r.store) put_in ∙ ap (with_edit node.store) same),
        match_false _ _ _ (ne_eqb _ _ (λ spent. below (ap high_of (h.stores i node at) ∙ spent)))
            (record { outcome_is = ap Ok (e ∙ ap ok_line (v ∙ ap (λ (d : Edit). d.version) same)); world_is = refl }),
      )

  -- a refused edit: the counters are spent, or memory ran out
  pub spent_write : (world : ScriptWorld) → Holds shell world → high_of node.store ≡ 18446744073709551615 → Writes world (Err VersionsSpent) world i p content
  spent_write world h spent = match_true _ _ _ (eq-eqb _ _ (ap high_of (sym (h.stores i node at)) ∙ spent)) (refuses world VersionsSpent)

  pub write_refused : (f : EditFault) (fault : Fault) → (IsErrOf {T = Version} (Err f) edit.Nothing → ⊥)
      → (IsErrOf {T = Version} (Err f) edit.VersionsSpent → high_of node.store ≡ 18446744073709551615) → fault ≡ fault_of_edit f
      → Goes shell shell (λ old outcome new. Writes old outcome new i p content) (Err fault)
  write_refused edit.VersionsSpent fault never spent is = refused shell VersionsSpent fault _ is (λ old h. spent_write old h (spent refl))
  write_refused edit.Nothing fault never spent is = absurd (never refl)
  write_refused edit.Memory fault never spent is = no_memory shell shell fault _ is

-- ---- removing

-- the visible content is removed
removes : (shell after : Keeps) (r : Rendered) (i : ℕ) (node : Replicated) (p : PlaceParts) → slice_get shell.nodes i ≡ Some node → (visible_at node.store p ≡ None → ⊥)
    → Goes shell after (λ old outcome new. Writes old outcome new i p Gone) r
    → Goes shell after (λ old outcome new. MatchOption (visible_at (held old i) p) (Refuses old Nothing outcome new) (λ shown. Writes old outcome new i p Gone)) r
removes shell after r i node p at visible = weaker shell after r _ _ (λ old h outcome new w. by old outcome new w (visible_at (held old i) p) (ap (λ (s : EntryMap). visible_at s p) (h.stores i node at)))
  where
    by : (old : ScriptWorld) (outcome : Outcome) (new : ScriptWorld) → Writes old outcome new i p Gone → (o : Option Content) → visible_at node.store p ≡ o → MatchOption o (Refuses old Nothing outcome new) (λ shown. Writes old outcome new i p Gone)
    by old outcome new w None e = absurd (visible e)
    by old outcome new w (Some c) e = w

nothing_removed : (shell : Keeps) (i : ℕ) (node : Replicated) (p : PlaceParts) (fault : Fault) → slice_get shell.nodes i ≡ Some node → visible_at node.store p ≡ None → fault ≡ Refused Nothing
    → Goes shell shell (λ old outcome new. MatchOption (visible_at (held old i) p) (Refuses old Nothing outcome new) (λ shown. Writes old outcome new i p Gone)) (Err fault)
nothing_removed shell i node p fault at none e = refused shell Nothing fault _ e (λ old h.
    subst (λ (o : Option Content). MatchOption o (Refuses old Nothing (Err Nothing) old) (λ shown. Writes old (Err Nothing) old i p Gone)) (sym none ∙ ap (λ (s : EntryMap). visible_at s p) (h.stores i node at)) (refuses old Nothing))

module _ (shell : Keeps) (i : ℕ) (node : Replicated) (p : PlaceParts) (at : slice_get shell.nodes i ≡ Some node) where
  pub removed : (new : Replicated) (version : Version) (text : Vec ℕ Global) → i < length shell.nodes → (visible_at node.store p ≡ None → ⊥) → (IsSome (visible_at node.store p) → high_of node.store ≢ 18446744073709551615)
      → version ≡ next_version node → text.items ≡ ok_line version → new ≡ with_put node (record { place = p; version = next_version node; content = Gone })
      → Goes shell (record shell { nodes = set shell.nodes i new }) (λ old outcome after. MatchOption (visible_at (held old i) p) (Refuses old Nothing outcome after) (λ shown. Writes old outcome after i p Gone)) (Ok text)
  removed new version text lt visible below v e put_in =
      removes shell (record shell { nodes = set shell.nodes i new }) (Ok text) i node p at visible (wrote shell i node p Gone at new version text lt (below (some_of (visible_at node.store p) visible)) v e put_in)
    where
      some_of : (o : Option Content) → (o ≡ None → ⊥) → IsSome o
      some_of None n = absurd (n refl)
      some_of (Some c) n = refl

  -- a refused removal: nothing is visible, the counters are spent, or memory ran out
  pub remove_refused : (f : EditFault) (fault : Fault) → (IsErrOf {T = Version} (Err f) edit.Nothing → visible_at node.store p ≡ None)
      → (IsErrOf {T = Version} (Err f) edit.VersionsSpent → IsSome (visible_at node.store p) × (high_of node.store ≡ 18446744073709551615)) → fault ≡ fault_of_edit f
      → Goes shell shell (λ old outcome new. MatchOption (visible_at (held old i) p) (Refuses old Nothing outcome new) (λ shown. Writes old outcome new i p Gone)) (Err fault)
  remove_refused edit.Nothing fault nothing spent is = nothing_removed shell i node p fault at (nothing refl) is
  remove_refused edit.VersionsSpent fault nothing spent is =
      let facts = spent refl in
      removes shell shell (Err fault) i node p at (hidden (visible_at node.store p) facts.0) (write_refused shell i node p Gone at edit.VersionsSpent fault never (λ _. facts.1) is)
    where
      hidden : (o : Option Content) → IsSome o → o ≡ None → ⊥
      hidden None s e = not_some s
        where
          not_some : IsSome {T = Content} None → ⊥
          not_some s = cc (s)
      hidden (Some c) s e = cc (e)

      never : IsErrOf {T = Version} (Err edit.VersionsSpent) edit.Nothing → ⊥
      never e = cc (e)
  remove_refused edit.Memory fault nothing spent is = no_memory shell shell fault _ is

-- ---- the profile

pub profile_set : (shell : Keeps) (profile : Profile) (text : Vec ℕ Global) → text.items ≡ codes "ok\n"
    → Goes shell (record shell { profile = profile }) (λ old outcome new. SetsProfile old outcome new profile) (Ok text)
profile_set shell profile text e world h = (with_profile world profile, holds_profile shell world h profile, record { outcome_is = ap Ok e; world_is = refl })

-- ---- making a node

-- the entries of a map after a change at one key, by the bytes of the key
pub key_updated : {V : Type 0} (name key other : List ℕ) (v w : V) (o now : Option V) → key ≡ name → v ≡ w → now ≡ cond (is_eq (slice_cmp nat_cmp key other)) (Some v) o → now ≡ cond (bytes_eq name other) (Some w) o
key_updated name key other v w o now same is e = e ∙ ap (λ b. cond b (Some v) o) (is_eq-slice_cmp key other ∙ ap (λ n. bytes_eq n other) same) ∙ ap (λ x. cond (bytes_eq name other) (Some x) o) is

is_eq-nat_cmp : (x y : ℕ) → is_eq (nat_cmp x y) ≡ (x == y)
is_eq-nat_cmp x y = by (is_eq (nat_cmp x y)) refl (x == y) refl
  where
    by : (a : Bool) → is_eq (nat_cmp x y) ≡ a → (b : Bool) → (x == y) ≡ b → a ≡ b
    by true e true f = refl
    by false e false f = refl
    by true e false f = absurd (true≢false (sym (eq-eqb x y (nat_cmp-IsAntisymmetric x y ((Equal-is (nat_cmp x y)).0 e))) ∙ f))
    by false e true f =
        let same : x ≡ y = eqb-true x y f in
        absurd (true≢false (sym (ap (λ z. is_eq (nat_cmp x z)) (sym same) ∙ ap is_eq (sym (nat_cmp_is x x Equal refl))) ∙ e))

pub number_added : (writer other : ℕ) (b now : Bool) → now ≡ cond (is_eq (nat_cmp writer other)) true b → now ≡ cond (writer == other) true b
number_added writer other b now e = e ∙ ap (λ c. cond c true b) (is_eq-nat_cmp writer other)

pub is_none : {V : Type 0} (o : Option V) → false ≡ is_some o → o ≡ None
is_none None e = refl
is_none (Some v) e = cc (e)

pub made : (shell now : Keeps) (name : List ℕ) (writer : ℕ) (node : Replicated) (text : Vec ℕ Global) → shell.number_of name ≡ None → shell.is_taken writer ≡ false → node.writer ≡ writer → node.store ≡ sum_of [] → text.items ≡ codes "ok\n"
    → now.nodes ≡ shell.nodes ++ node ∷ [] → ((other : List ℕ) → now.number_of other ≡ cond (bytes_eq name other) (Some (length shell.nodes)) (shell.number_of other))
    → ((other : ℕ) → now.is_taken other ≡ cond (writer == other) true (shell.is_taken other)) → now.piece_of ≡ shell.piece_of → now.profile ≡ shell.profile
    → Goes shell now (λ old outcome new. Names old outcome new name writer) (Ok text)
made shell now name writer node text fresh free numbered empty e nodes numbers writers pieces profile world h = (
  with_new_node world name writer,
  holds_node shell world h now node name writer fresh free numbered empty nodes numbers writers pieces profile,
  subst (λ (o : Option ℕ). MatchOption o (MatchBool (is_used world writer) (Refuses world WriterTaken (Ok text.items) (with_new_node world name writer)) (Gives (codes "ok\n") (with_new_node world name writer) (Ok text.items) (with_new_node world name writer))) (λ k. Refuses world NodeTaken (Ok text.items) (with_new_node world name writer)))
      (sym fresh ∙ h.numbers name)
      (match_false _ _ _ (sym (h.taken writer) ∙ free) (record { outcome_is = ap Ok e; world_is = refl })),
)
