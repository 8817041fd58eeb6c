-- A command that only reads a node's store has one outcome for all nodes that took the same edits.
use Rattle.std.proofs.Common.{◌↔◌, ◌≡◌}
use Rattle.fleet_script.proofs.Prelude.{AreSameEdits, Ask, blank, Cat, Command, Crowd, crowds_are_rendered_once, Does, EntryMap, Files, files_are_rendered_once, held, IsAboveEdits, IsAskedByOneProfile, IsRead, IsReading, IsStoreBelow, length, Link, List, MatchOption, Merge, Node, node_named, of_node, Option, Outcome, Part, Profile, Put, form_of, question_by, questions_are_rendered_once, Reads, Refuses, Remove, RendersCrowd, RendersFiles, RendersInquiry, RendersPlaces, RendersText, Run, Same, SameEditsSameOutcomes, SameEditsSameStores, ScriptWorld, Send, slice_get, Some, state, stores_are_sums, StoresAreLeast, subst, sum_of-least, sum_of-same_edits, Sweep, sym, Text, texts_are_rendered_once, took, UnknownNode, valid_blank, Workers, ℕ, ◌∙◌}
use Rattle.fleet_script.proofs.WholeScripts.{run_valid}
use Rattle.world_law.specs.Worlds as worlds
use Rattle.script_commands.specs.declared.commands.Command.TheVariants as command

-- what a node holds after some lines is the sum of what it took
node_sum : (lines : List (List ℕ)) (written : List ℕ) (world : ScriptWorld) → Run blank lines written world → (k : ℕ) (node : worlds.Node) → slice_get (state world).nodes k ≡ Some node
    → node.store ≡ held world k
node_sum lines written world r k node at = stores_are_sums (length world.nodes) world.events (run_valid lines blank written world valid_blank r).told k node at

module _ (world other : ScriptWorld) (left right : List ℕ) (j k : ℕ) (is_left : node_named world.nodes left ≡ Some j) (is_right : node_named other.nodes right ≡ Some k)
    (same : AreSameEdits (took (state world) j) (took (state other) k)) (a b : Outcome) (x y : ScriptWorld) where
  read_alike : (Renders : EntryMap → Outcome → Type 0) → ((s : EntryMap) (p q : Outcome) → Renders s p → Renders s q → p ≡ q) → Reads world a x left Renders → Reads other b y right Renders → a ≡ b
  read_alike Renders once p q =
      let M : Option ℕ → Type 0 = λ o. MatchOption o (Refuses world UnknownNode a x) (λ n. IsRead (Renders (held world n)) world a x) in
      let N : Option ℕ → Type 0 = λ o. MatchOption o (Refuses other UnknownNode b y) (λ n. IsRead (Renders (held other n)) other b y) in
      let one : IsRead (Renders (held world j)) world a x = subst M is_left p in
      let two : IsRead (Renders (held other k)) other b y = subst N is_right q in
      once (held other k) a b (subst (λ (s : EntryMap). Renders s a) (sum_of-same_edits _ _ same.0 same.1) one.rendered) two.rendered

  alike : (command : Command) → IsReading command → IsAskedByOneProfile command world other → Does world (of_node left command) a x → Does other (of_node right command) b y → a ≡ b
  alike (Files node) h one p q = read_alike RendersPlaces (λ s a b p q. p ∙ sym q) p q
  alike (Text node place) h one p q = read_alike (RendersText place) (texts_are_rendered_once place) p q
  alike (Cat node host unit) h one p q = read_alike (RendersFiles host unit) (files_are_rendered_once host unit) p q
  alike (Ask node host inquiry) h one p q =
      let asked : Profile → EntryMap → Outcome → Type 0 = λ profile. RendersInquiry profile host inquiry in
      read_alike (asked other.profile) (questions_are_rendered_once (form_of inquiry) (question_by other.profile inquiry) host)
      (subst (λ (profile : Profile). Reads world a x left (asked profile)) one p) q
  alike (Crowd node seats edits) h one p q = read_alike (RendersCrowd seats edits) (crowds_are_rendered_once seats edits) p q
  alike (Node name writer) h one p q = absurd h
  alike (Put node place text) h one p q = absurd h
  alike (Link node place target) h one p q = absurd h
  alike (Remove node place) h one p q = absurd h
  alike (Merge from to) h one p q = absurd h
  alike (Part piece from to places) h one p q = absurd h
  alike (Send piece node) h one p q = absurd h
  alike Sweep h one p q = absurd h
  alike (Workers count) h one p q = absurd h
  alike (command.Profile profile) h one p q = absurd h
  alike (Same first second) h one p q = absurd h

pub same_edits_same_outcomes : SameEditsSameOutcomes
same_edits_same_outcomes world other left right j k is_left is_right same command reading one a b x y p q = alike world other left right j k is_left is_right same a b x y command reading one p q

pub same_edits_same_stores : SameEditsSameStores
same_edits_same_stores lines others written rendered world other r s j k left right is_left is_right same =
    node_sum lines written world r j left is_left ∙ sum_of-same_edits _ _ same.0 same.1 ∙ sym (node_sum others rendered other s k right is_right)

pub stores_are_least : StoresAreLeast
stores_are_least lines written world r k node at s =
    let P : EntryMap → Type 0 = λ t. IsStoreBelow t s ↔ IsAboveEdits (took (state world) k) s in
    subst P (sym (node_sum lines written world r k node at)) (sum_of-least (took (state world) k) s)
