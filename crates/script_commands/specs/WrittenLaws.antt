-- A command is read back from its written form: its words, with one space between them.
use Rattle.std.proofs.Common.{◌&&◌, ◌++◌, ◌<◌, ◌^◌, ◌↔◌, ◌∷◌, ◌≡◌, ◌≢◌, ◌≤◌, ◌⊎◌}
use Rattle.script_words.specs.Names.{is_name}
use Rattle.script_commands.specs.Prelude.{[], All, All-append, All-cons, All-from_recursion, AllByRecursion, and_from, and_parts, ap, append_assoc, arith, Bool, codes, cond, cond-true, decimal, decimal_nonempty, digits_decimal, Err, false, Files, is_ascii_alphanumeric, is_ascii_digit, IsDigitsTest, IsWord, join_with_byte, le-leb, length, length-append, length-decimal-le, List, list_all, Manager, nat_lt, nat_tests, None, number_of, number_of-decimal, numerals_by_value, Ok, Option, Profile, recursion_from_All, refl, Result, rules, Some, spaced, sym, text_after, text_after-last, text_after-spaced, true, true≢false, words_of, words_of-nil, words_of-spaced, words_of-word, words_of-word_space, ℕ, ◌∙◌}
use Rattle.script_commands.specs.{Commands.{asking, asking_this, command_of, command_of_words, crowd_with, node_with, profile_with, with_name_and_word, with_node_and_word, with_two_names, workers_with}, declared.commands.{Command.{Command, TheVariants.{Ask, Cat, Crowd, Files, Link, Merge, Node, Part, Put, Remove, Same, Send, Sweep, Text, Workers}}, LineRefusal.{LineRefusal, TheVariants.{Arguments, UnknownCommand}}}, HostLaws.{host_in-node_word, node_in-node_word}, Hosts.{host_in, node_in, node_word}, Profiles.{profile_of-profile_word, profile_word}}
use Rattle.script_commands.specs.declared.commands.Command.TheVariants as command
use Rattle.script_commands.specs.declared.commands.Inquiry.TheVariants as inquiry

-- words with one space between them
abbrev pub line_of : List (List ℕ) → List ℕ
line_of words = join_with_byte 32 words

-- a valid name
abbrev pub IsName : List ℕ → Type 0
IsName word = is_name word ≡ true

-- The written form of each command.

-- a command with this verb, a name and a word
abbrev pub NameAndWordAreReadBack : List ℕ → (List ℕ → List ℕ → Command) → Type 0
NameAndWordAreReadBack verb command = (name word : List ℕ) → IsName name → IsWord word
    → command_of (line_of (verb ∷ name ∷ word ∷ [])) ≡ Ok (command name word)

-- a host that can be written in a word: none, or bytes without a space; it may be empty
abbrev pub HasNoSpace : Option (List ℕ) → Type 0
HasNoSpace None = Unit {0}
HasNoSpace (Some host) = All (λ b. b ≢ 32) host

-- a command with this verb, a node with or without a host, and a word
abbrev pub NodeAndWordAreReadBack : List ℕ → (List ℕ → Option (List ℕ) → List ℕ → Command) → Type 0
NodeAndWordAreReadBack verb command = (node : List ℕ) (host : Option (List ℕ)) (word : List ℕ) → IsName node → HasNoSpace host → IsWord word
    → command_of (line_of (verb ∷ node_word node host ∷ word ∷ [])) ≡ Ok (command node host word)

-- a command with this verb and two names
abbrev pub TwoNamesAreReadBack : List ℕ → (List ℕ → List ℕ → Command) → Type 0
TwoNamesAreReadBack verb command = (first second : List ℕ) → IsName first → IsName second
    → command_of (line_of (verb ∷ first ∷ second ∷ [])) ≡ Ok (command first second)

-- a 32-bit writer number in decimal
abbrev pub NodeIsReadBack : Type 0
NodeIsReadBack = (name : List ℕ) (writer : ℕ) → IsName name → writer < 2 ^ 32
    → command_of (line_of (codes "node" ∷ name ∷ decimal writer ∷ [])) ≡ Ok (Node name writer)

-- the text after the place and one space is any bytes, spaces included
abbrev pub PutIsReadBack : Type 0
PutIsReadBack = (node place text : List ℕ) → IsName node → IsWord place
    → command_of (line_of (codes "put" ∷ node ∷ place ∷ text ∷ [])) ≡ Ok (Put node place text)

-- there may be no text
abbrev pub EmptyPutIsReadBack : Type 0
EmptyPutIsReadBack = (node place : List ℕ) → IsName node → IsWord place
    → command_of (line_of (codes "put" ∷ node ∷ place ∷ [])) ≡ Ok (Put node place [])

abbrev pub LinkIsReadBack : Type 0
LinkIsReadBack = (node place target : List ℕ) → IsName node → IsWord place → IsWord target
    → command_of (line_of (codes "link" ∷ node ∷ place ∷ target ∷ [])) ≡ Ok (Link node place target)

abbrev pub RemoveIsReadBack : Type 0
RemoveIsReadBack = NameAndWordAreReadBack (codes "remove") Remove

abbrev pub MergeIsReadBack : Type 0
MergeIsReadBack = TwoNamesAreReadBack (codes "merge") Merge

-- any number of places, even none
abbrev pub PartIsReadBack : Type 0
PartIsReadBack = (piece from to : List ℕ) (places : List (List ℕ)) → IsName piece → IsName from → IsName to → All IsWord places
    → command_of (line_of (codes "part" ∷ piece ∷ from ∷ to ∷ places)) ≡ Ok (Part piece from to places)

abbrev pub SendIsReadBack : Type 0
SendIsReadBack = TwoNamesAreReadBack (codes "send") Send

abbrev pub SweepIsReadBack : Type 0
SweepIsReadBack = command_of (line_of (codes "sweep" ∷ [])) ≡ Ok Sweep

abbrev pub FilesIsReadBack : Type 0
FilesIsReadBack = (node : List ℕ) → IsName node
    → command_of (line_of (codes "files" ∷ node ∷ [])) ≡ Ok (Files node)

abbrev pub TextIsReadBack : Type 0
TextIsReadBack = NameAndWordAreReadBack (codes "text") Text

abbrev pub CatIsReadBack : Type 0
CatIsReadBack = NodeAndWordAreReadBack (codes "cat") Cat

abbrev pub ShowIsReadBack : Type 0
ShowIsReadBack = NodeAndWordAreReadBack (codes "show") (asking inquiry.Unit)

abbrev pub ListIsReadBack : Type 0
ListIsReadBack = NodeAndWordAreReadBack (codes "list") (asking inquiry.List)

-- any number of running units, even none
abbrev pub PlanIsReadBack : Type 0
PlanIsReadBack = (node : List ℕ) (host : Option (List ℕ)) (unit : List ℕ) (running : List (List ℕ))
    → IsName node → HasNoSpace host → IsWord unit → All IsWord running
    → command_of (line_of (codes "plan" ∷ node_word node host ∷ unit ∷ running)) ≡ Ok (Ask node host (inquiry.Plan unit running))

-- a node, with or without a host, is the only word after the command's
abbrev pub NodeIsReadAlone : List ℕ → (List ℕ → Option (List ℕ) → Command) → Type 0
NodeIsReadAlone verb command = (node : List ℕ) (host : Option (List ℕ)) → IsName node → HasNoSpace host
    → command_of (line_of (verb ∷ node_word node host ∷ [])) ≡ Ok (command node host)

abbrev pub UnitsIsReadBack : Type 0
UnitsIsReadBack = NodeIsReadAlone (codes "units") (asking_this inquiry.Units)

abbrev pub TreeIsReadBack : Type 0
TreeIsReadBack = NodeIsReadAlone (codes "tree") (asking_this inquiry.Tree)

-- a 32-bit number in decimal
abbrev pub WorkersIsReadBack : Type 0
WorkersIsReadBack = (count : ℕ) → count < 2 ^ 32
    → command_of (line_of (codes "workers" ∷ decimal count ∷ [])) ≡ Ok (Workers count)

-- the word of a profile
abbrev pub ProfileIsReadBack : Type 0
ProfileIsReadBack = (profile : Profile) → command_of (line_of (codes "profile" ∷ profile_word profile ∷ [])) ≡ Ok (command.Profile profile)

abbrev pub SameIsReadBack : Type 0
SameIsReadBack = TwoNamesAreReadBack (codes "same") Same

-- 32-bit numbers in decimal, the second at most 1,000
abbrev pub CrowdIsReadBack : Type 0
CrowdIsReadBack = (node : List ℕ) (seats edits : ℕ) → IsName node → seats < 2 ^ 32 → edits ≤ 1000
    → command_of (line_of (codes "crowd" ∷ node ∷ decimal seats ∷ decimal edits ∷ [])) ≡ Ok (Crowd node seats edits)

-- these are the words of a command's line; the text of `put` is everything after the first three words and one space
abbrev pub AreWordsOf : Command → List (List ℕ) → List ℕ → Type 0
AreWordsOf (Node name writer) words line =
    (number : List ℕ) × (words ≡ codes "node" ∷ name ∷ number ∷ []) × (number_of number ≡ Some writer) × IsName name
AreWordsOf (Put node place text) words line =
    (rest : List (List ℕ)) × (words ≡ codes "put" ∷ node ∷ place ∷ rest) × (text ≡ text_after 3 line) × IsName node
AreWordsOf (Link node place target) words line = (words ≡ codes "link" ∷ node ∷ place ∷ target ∷ []) × IsName node
AreWordsOf (Remove node place) words line = (words ≡ codes "remove" ∷ node ∷ place ∷ []) × IsName node
AreWordsOf (Merge from to) words line = (words ≡ codes "merge" ∷ from ∷ to ∷ []) × IsName from × IsName to
AreWordsOf (Part piece from to places) words line =
    (words ≡ codes "part" ∷ piece ∷ from ∷ to ∷ places) × IsName piece × IsName from × IsName to
AreWordsOf (Send piece node) words line = (words ≡ codes "send" ∷ piece ∷ node ∷ []) × IsName piece × IsName node
AreWordsOf Sweep words line = words ≡ codes "sweep" ∷ []
AreWordsOf (Files node) words line = (words ≡ codes "files" ∷ node ∷ []) × IsName node
AreWordsOf (Text node place) words line = (words ≡ codes "text" ∷ node ∷ place ∷ []) × IsName node
AreWordsOf (Cat node host unit) words line = (words ≡ codes "cat" ∷ node_word node host ∷ unit ∷ []) × IsName node
AreWordsOf (Ask node host (inquiry.Unit unit)) words line = (words ≡ codes "show" ∷ node_word node host ∷ unit ∷ []) × IsName node
AreWordsOf (Ask node host (inquiry.List unit)) words line = (words ≡ codes "list" ∷ node_word node host ∷ unit ∷ []) × IsName node
AreWordsOf (Ask node host (inquiry.Plan unit running)) words line = (words ≡ codes "plan" ∷ node_word node host ∷ unit ∷ running) × IsName node
AreWordsOf (Ask node host inquiry.Units) words line = (words ≡ codes "units" ∷ node_word node host ∷ []) × IsName node
AreWordsOf (Ask node host inquiry.Tree) words line = (words ≡ codes "tree" ∷ node_word node host ∷ []) × IsName node
AreWordsOf (Workers count) words line = (number : List ℕ) × (words ≡ codes "workers" ∷ number ∷ []) × (number_of number ≡ Some count)
AreWordsOf (command.Profile profile) words line = words ≡ codes "profile" ∷ profile_word profile ∷ []
AreWordsOf (Same left right) words line = (words ≡ codes "same" ∷ left ∷ right ∷ []) × IsName left × IsName right
AreWordsOf (Crowd node seats edits) words line =
    (first : List ℕ) × (second : List ℕ) × (words ≡ codes "crowd" ∷ node ∷ first ∷ second ∷ [])
    × (number_of first ≡ Some seats) × (number_of second ≡ Some edits) × IsName node × (edits ≤ 1000)

-- a line is read as a command exactly if it has that command's words
abbrev pub JustItsWordsAreRead : Type 0
JustItsWordsAreRead = (line : List ℕ) (command : Command) → (command_of line ≡ Ok command) ↔ AreWordsOf command (words_of line) line

-- the words that name commands
abbrev pub verbs : List (List ℕ)
verbs = codes "node" ∷ codes "put" ∷ codes "link" ∷ codes "remove" ∷ codes "merge" ∷ codes "part" ∷ codes "send" ∷ codes "sweep" ∷ codes "files" ∷ codes "text" ∷ codes "workers" ∷ codes "profile" ∷ codes "same" ∷ codes "crowd" ∷ codes "cat" ∷ codes "show" ∷ codes "list" ∷ codes "plan" ∷ codes "units" ∷ codes "tree" ∷ []

-- the word is one of these
abbrev pub IsOneOf : List ℕ → List (List ℕ) → Type 0
IsOneOf word [] = ⊥
IsOneOf word (other ∷ others) = (word ≡ other) ⊎ IsOneOf word others

-- the first word names a command
abbrev pub BeginsWithVerb : List (List ℕ) → Type 0
BeginsWithVerb [] = ⊥
BeginsWithVerb (word ∷ words) = IsOneOf word verbs

-- a line that isn't a command is refused for what follows a verb, or because its first word isn't a verb
abbrev pub OthersAreRefused : Type 0
OthersAreRefused = (line : List ℕ) (refusal : LineRefusal) → command_of line ≡ Err refusal
    → (BeginsWithVerb (words_of line) × (refusal ≡ Arguments)) ⊎ ((BeginsWithVerb (words_of line) → ⊥) × (refusal ≡ UnknownCommand))

-- Words of a line.

words_of-line : (words : List (List ℕ)) → AllByRecursion IsWord words → words_of (line_of words) ≡ words
words_of-line [] all = words_of-nil
words_of-line (word ∷ []) all = words_of-word word all.0
words_of-line (word ∷ next ∷ words) all = words_of-word_space word (line_of (next ∷ words)) all.0 ∙ ap (λ v. word ∷ v) (words_of-line (next ∷ words) all.1)

read_words : (words : List (List ℕ)) → AllByRecursion IsWord words
    → command_of (line_of words) ≡ command_of_words words (line_of words)
read_words words all = ap (λ v. command_of_words v (line_of words)) (words_of-line words all)

-- a text after words
line_of-text : (words : List (List ℕ)) (text : List ℕ) → line_of (words ++ text ∷ []) ≡ spaced words ++ text
line_of-text [] text = refl
line_of-text (word ∷ []) text =
    let parts : (word ++ 32 ∷ [] ++ spaced []) ++ text ≡ word ++ 32 ∷ (spaced [] ++ text) = simp append_assoc in
    sym parts
line_of-text (word ∷ next ∷ words) text =
    let parts : (word ++ 32 ∷ [] ++ spaced (next ∷ words)) ++ text ≡ word ++ 32 ∷ (spaced (next ∷ words) ++ text) = simp append_assoc in
    ap (λ v. word ++ 32 ∷ v) (line_of-text (next ∷ words) text) ∙ sym parts

-- Which words can be in a line.

without : (c : ℕ) (p : ℕ → Bool) → p c ≡ false → (word : List ℕ) → list_all p word ≡ true → AllByRecursion (λ b. b ≢ c) word
without c p free [] all = tt
without c p free (b ∷ word) all =
    let parts = and_parts (p b) (list_all p word) all in
    (λ same. true≢false (sym parts.0 ∙ ap p same ∙ free), without c p free word parts.1)

some_bytes : (n : ℕ) → nat_lt 0 n ≡ true → 0 < n
some_bytes n some = grind (arith, nat_tests)

name_is_word : (word : List ℕ) → IsName word → IsWord word
unfolding is_name
name_is_word word is =
    let parts = and_parts _ _ is in
    let some : nat_lt 0 (length word) ≡ true = (and_parts _ _ parts.0).0 in
    (some_bytes (length word) some, All-from_recursion (λ b. b ≢ 32) word (without 32 is_ascii_alphanumeric refl word parts.1))

name_without_at : (word : List ℕ) → IsName word → AllByRecursion (λ b. b ≢ 64) word
unfolding is_name
name_without_at word is = without 64 is_ascii_alphanumeric refl word (and_parts _ _ is).1

node_word_is_word : (node : List ℕ) (host : Option (List ℕ)) → IsName node → HasNoSpace host → IsWord (node_word node host)
node_word_is_word node None is free = name_is_word node is
node_word_is_word node (Some host) is free =
    let alone : IsWord node = name_is_word node is in
    let after : All (λ b. b ≢ 32) (64 ∷ host) = All-cons (λ b. b ≢ 32) 64 host (λ same. omega arith) free in
    (omega (arith, alone.0, length-append node (64 ∷ host)), All-append (λ b. b ≢ 32) node (64 ∷ host) alone.1 after)

-- each byte is a decimal digit
abbrev AreDigits : List ℕ → Type 0
AreDigits digits = list_all is_ascii_digit digits ≡ true

tells_digits : IsDigitsTest AreDigits
tells_digits = search rules

number_is_word : (n : ℕ) → n < 2 ^ 32 → IsWord (decimal n)
number_is_word n small = (
  decimal_nonempty n (omega arith),
  All-from_recursion (λ b. b ≢ 32) (decimal n) (without 32 is_ascii_digit refl (decimal n) (digits_decimal (numerals_by_value _ tells_digits) n (omega arith))),
)

-- a word of letters, as all verbs are
abbrev IsVerb : List ℕ → Type 0
IsVerb word = (nat_lt 0 (length word) && list_all is_ascii_alphanumeric word) ≡ true

is_verb : (word : List ℕ) → IsVerb word → IsWord word
is_verb word is =
    let parts = and_parts _ _ is in
    (some_bytes (length word) parts.0, All-from_recursion (λ b. b ≢ 32) word (without 32 is_ascii_alphanumeric refl word parts.1))

-- Each command.

name_and_word_are_read_back : (verb : List ℕ) (command : List ℕ → List ℕ → Command) → IsVerb verb
    → ((words : List (List ℕ)) (line : List ℕ) → command_of_words (verb ∷ words) line ≡ with_name_and_word command words)
    → NameAndWordAreReadBack verb command
name_and_word_are_read_back verb command letters reads name word is at =
    let words : List (List ℕ) = verb ∷ name ∷ word ∷ [] in
    read_words words (is_verb verb letters, (name_is_word name is, (at, tt)))
    ∙ reads (name ∷ word ∷ []) (line_of words) ∙ cond-true _ _ _ is

-- a node with a valid name and a host are read back from their word
pub node_word_is_cut : (node : List ℕ) (host : Option (List ℕ)) (command : List ℕ → Option (List ℕ) → Command) → IsName node
    → let word = node_word node host in
    ◌≡◌ {A = Result Command LineRefusal} (cond (is_name (node_in word)) (Ok (command (node_in word) (host_in word))) (Err Arguments)) (Ok (command node host))
node_word_is_cut node host command is =
    let free : AllByRecursion (λ b. b ≢ 64) node = name_without_at node is in
    cond-true _ _ _ (ap is_name (node_in-node_word node host free) ∙ is)
    ∙ ap (λ v. Ok (command v (host_in (node_word node host)))) (node_in-node_word node host free)
    ∙ ap (λ v. Ok (command node v)) (host_in-node_word node host free)

node_and_word_are_read_back : (verb : List ℕ) (command : List ℕ → Option (List ℕ) → List ℕ → Command) → IsVerb verb
    → ((words : List (List ℕ)) (line : List ℕ) → command_of_words (verb ∷ words) line ≡ with_node_and_word command words)
    → NodeAndWordAreReadBack verb command
node_and_word_are_read_back verb command letters reads node host word is free at =
    let words : List (List ℕ) = verb ∷ node_word node host ∷ word ∷ [] in
    read_words words (is_verb verb letters, (node_word_is_word node host is free, (at, tt)))
    ∙ reads (node_word node host ∷ word ∷ []) (line_of words)
    ∙ node_word_is_cut node host (λ n h. command n h word) is

two_names_are_read_back : (verb : List ℕ) (command : List ℕ → List ℕ → Command) → IsVerb verb
    → ((words : List (List ℕ)) (line : List ℕ) → command_of_words (verb ∷ words) line ≡ with_two_names command words)
    → TwoNamesAreReadBack verb command
two_names_are_read_back verb command letters reads first second is and =
    let words : List (List ℕ) = verb ∷ first ∷ second ∷ [] in
    read_words words (is_verb verb letters, (name_is_word first is, (name_is_word second and, tt)))
    ∙ reads (first ∷ second ∷ []) (line_of words) ∙ cond-true _ _ _ (and_from _ _ is and)

pub node_is_read_back : NodeIsReadBack
node_is_read_back name writer is small =
    let fits : length (decimal writer) ≤ 10 = length-decimal-le 10 writer (omega arith) (omega arith) (omega arith) in
    read_words (codes "node" ∷ name ∷ decimal writer ∷ []) (is_verb (codes "node") refl, (name_is_word name is, (number_is_word writer small, tt)))
    ∙ ap (node_with name) (number_of-decimal writer 0 small (omega arith))
    ∙ cond-true _ _ _ is

pub put_is_read_back : PutIsReadBack
put_is_read_back node place text is at =
    let words : List (List ℕ) = codes "put" ∷ node ∷ place ∷ [] in
    let all : AllByRecursion IsWord words = (is_verb (codes "put") refl, (name_is_word node is, (at, tt))) in
    ap command_of (line_of-text words text)
    ∙ ap (λ v. command_of_words v (spaced words ++ text)) (words_of-spaced words text all)
    ∙ cond-true _ _ _ is
    ∙ ap (λ v. Ok (Put node place v)) (text_after-spaced (codes "put") (node ∷ place ∷ []) text all)

pub empty_put_is_read_back : EmptyPutIsReadBack
empty_put_is_read_back node place is at =
    let words : List (List ℕ) = codes "put" ∷ node ∷ [] in
    let all : AllByRecursion IsWord words = (is_verb (codes "put") refl, (name_is_word node is, tt)) in
    read_words (codes "put" ∷ node ∷ place ∷ []) (is_verb (codes "put") refl, (name_is_word node is, (at, tt)))
    ∙ cond-true _ _ _ is
    ∙ ap (λ v. Ok (Put node place v)) (ap (text_after 3) (line_of-text words place) ∙ text_after-last words place all at)

pub link_is_read_back : LinkIsReadBack
link_is_read_back node place target is at to =
    read_words (codes "link" ∷ node ∷ place ∷ target ∷ []) (is_verb (codes "link") refl, (name_is_word node is, (at, (to, tt)))) ∙ cond-true _ _ _ is

pub remove_is_read_back : RemoveIsReadBack
remove_is_read_back = name_and_word_are_read_back (codes "remove") Remove refl (λ words line. refl)

pub merge_is_read_back : MergeIsReadBack
merge_is_read_back = two_names_are_read_back (codes "merge") Merge refl (λ words line. refl)

pub part_is_read_back : PartIsReadBack
part_is_read_back piece from to places named is and all =
    read_words (codes "part" ∷ piece ∷ from ∷ to ∷ places) (is_verb (codes "part") refl, (name_is_word piece named, (name_is_word from is, (name_is_word to and, recursion_from_All IsWord places all))))
    ∙ cond-true _ _ _ (and_from _ _ (and_from _ _ named is) and)

pub send_is_read_back : SendIsReadBack
send_is_read_back = two_names_are_read_back (codes "send") Send refl (λ words line. refl)

pub sweep_is_read_back : SweepIsReadBack
sweep_is_read_back = read_words (codes "sweep" ∷ []) (is_verb (codes "sweep") refl, tt)

pub files_is_read_back : FilesIsReadBack
files_is_read_back node is = read_words (codes "files" ∷ node ∷ []) (is_verb (codes "files") refl, (name_is_word node is, tt)) ∙ cond-true _ _ _ is

pub text_is_read_back : TextIsReadBack
text_is_read_back = name_and_word_are_read_back (codes "text") Text refl (λ words line. refl)

pub cat_is_read_back : CatIsReadBack
cat_is_read_back = node_and_word_are_read_back (codes "cat") Cat refl (λ words line. refl)

pub show_is_read_back : ShowIsReadBack
show_is_read_back = node_and_word_are_read_back (codes "show") (asking inquiry.Unit) refl (λ words line. refl)

pub list_is_read_back : ListIsReadBack
list_is_read_back = node_and_word_are_read_back (codes "list") (asking inquiry.List) refl (λ words line. refl)

pub plan_is_read_back : PlanIsReadBack
plan_is_read_back node host unit running is free word all =
    let words : List (List ℕ) = codes "plan" ∷ node_word node host ∷ unit ∷ running in
    read_words words (is_verb (codes "plan") refl, (node_word_is_word node host is free, (word, recursion_from_All IsWord running all)))
    ∙ node_word_is_cut node host (λ n h. Ask n h (inquiry.Plan unit running)) is

pub units_is_read_back : UnitsIsReadBack
units_is_read_back node host is free =
    read_words (codes "units" ∷ node_word node host ∷ []) (is_verb (codes "units") refl, (node_word_is_word node host is free, tt))
    ∙ node_word_is_cut node host (asking_this inquiry.Units) is

pub tree_is_read_back : TreeIsReadBack
tree_is_read_back node host is free =
    read_words (codes "tree" ∷ node_word node host ∷ []) (is_verb (codes "tree") refl, (node_word_is_word node host is free, tt))
    ∙ node_word_is_cut node host (asking_this inquiry.Tree) is

pub workers_is_read_back : WorkersIsReadBack
workers_is_read_back count small =
    let fits : length (decimal count) ≤ 10 = length-decimal-le 10 count (omega arith) (omega arith) (omega arith) in
    read_words (codes "workers" ∷ decimal count ∷ []) (is_verb (codes "workers") refl, (number_is_word count small, tt))
    ∙ ap workers_with (number_of-decimal count 0 small (omega arith))

profile_word_is_word : (profile : Profile) → IsWord (profile_word profile)
profile_word_is_word Files = is_verb (profile_word Files) refl
profile_word_is_word Manager = is_verb (profile_word Manager) refl

pub profile_is_read_back : ProfileIsReadBack
profile_is_read_back profile =
    read_words (codes "profile" ∷ profile_word profile ∷ []) (is_verb (codes "profile") refl, (profile_word_is_word profile, tt))
    ∙ ap profile_with (profile_of-profile_word profile)

pub same_is_read_back : SameIsReadBack
same_is_read_back = two_names_are_read_back (codes "same") Same refl (λ words line. refl)

pub crowd_is_read_back : CrowdIsReadBack
crowd_is_read_back node seats edits is small few =
    let fits : length (decimal seats) ≤ 10 = length-decimal-le 10 seats (omega arith) (omega arith) (omega arith) in
    let short : length (decimal edits) ≤ 10 = length-decimal-le 10 edits (omega arith) (omega arith) (omega arith) in
    read_words (codes "crowd" ∷ node ∷ decimal seats ∷ decimal edits ∷ []) (is_verb (codes "crowd") refl, (name_is_word node is, (number_is_word seats small, (number_is_word edits (omega arith), tt))))
    ∙ ap (λ v. crowd_with node v (number_of (decimal edits))) (number_of-decimal seats 0 small (omega arith))
    ∙ ap (crowd_with node (Some seats)) (number_of-decimal edits 0 (omega arith) (omega arith))
    ∙ cond-true _ _ _ (and_from _ _ is (le-leb edits 1000 few))
