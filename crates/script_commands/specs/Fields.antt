-- What a line must contain for its next field, and why a field is refused.
-- Source: this project's own.
use Rattle.std.proofs.Common.{◌<◌, ◌∷◌, ◌≡◌}
use Rattle.script_commands.specs.{Hosts.{host_in, node_in}, Prelude.{[], false, is_name, List, None, number_of, Option, Profile, Some, true, ℕ}, Profiles.{profile_of}}

-- there are no words, or the first fails
abbrev FirstFails : (List ℕ → Type 0) → List (List ℕ) → Type 0
FirstFails Fails [] = Unit {0}
FirstFails Fails (first ∷ words) = Fails first

-- there isn't exactly one word, or it fails
abbrev OneFails : (List ℕ → Type 0) → List (List ℕ) → Type 0
OneFails Fails (word ∷ []) = Fails word
OneFails Fails words = Unit {0}

abbrev pub AreNotOne : List (List ℕ) → Type 0
AreNotOne = OneFails (λ word. ⊥)

-- the words don't begin with a name
abbrev pub BeginsWithNoName : List (List ℕ) → Type 0
BeginsWithNoName = FirstFails (λ word. is_name word ≡ false)

-- the first word has this node and this host, if any, and the rest follows: the node is the part before the word's
-- first at sign, or the whole word, and the host is the part after it
abbrev pub BeginsWithNode : List ℕ → Option (List ℕ) → List (List ℕ) → List (List ℕ) → Type 0
BeginsWithNode node host [] rest = ⊥
BeginsWithNode node host (word ∷ words) rest = (node_in word ≡ node) × (host_in word ≡ host) × (is_name node ≡ true) × (words ≡ rest)

-- the words don't begin with a node, with or without a host
abbrev pub BeginsWithNoNode : List (List ℕ) → Type 0
BeginsWithNoNode = FirstFails (λ word. is_name (node_in word) ≡ false)

abbrev pub AreNotOneName : List (List ℕ) → Type 0
AreNotOneName = OneFails (λ word. is_name word ≡ false)

-- the first word spells this number, and the rest follows
abbrev pub BeginsWithNumber : ℕ → List (List ℕ) → List (List ℕ) → Type 0
BeginsWithNumber number [] rest = ⊥
BeginsWithNumber number (word ∷ words) rest = (number_of word ≡ Some number) × (words ≡ rest)

-- the words don't begin with a number
abbrev pub BeginsWithNoNumber : List (List ℕ) → Type 0
BeginsWithNoNumber = FirstFails (λ word. number_of word ≡ None)

abbrev pub AreNotOneNumber : List (List ℕ) → Type 0
AreNotOneNumber = OneFails (λ word. number_of word ≡ None)

-- not a number of at most 1,000
abbrev pub IsNoEditCount : Option ℕ → Type 0
IsNoEditCount None = Unit {0}
IsNoEditCount (Some edits) = 1000 < edits

abbrev pub AreNotOneEditCount : List (List ℕ) → Type 0
AreNotOneEditCount = OneFails (λ word. IsNoEditCount (number_of word))

-- there is one word, and it names this profile
abbrev pub IsOneProfile : Profile → List (List ℕ) → Type 0
IsOneProfile profile (word ∷ []) = profile_of word ≡ Some profile
IsOneProfile profile words = ⊥

abbrev pub AreNotOneProfile : List (List ℕ) → Type 0
AreNotOneProfile = OneFails (λ word. profile_of word ≡ None)
