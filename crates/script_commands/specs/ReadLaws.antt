-- A line is read as a command exactly if it has that command's words; any other line is refused for what is wrong with
-- it.
use Rattle.std.proofs.Common.{◌&&◌, ◌∷◌, ◌≡◌, ◌⊎◌}
use Rattle.script_commands.specs.Prelude.{[], and_from, and_parts, ap, Bool, bytes_eq, bytes_eq-Decides, codes, cond, cond-true, drop, Err, false, inl, inr, is_name, le-leb, leb-true, List, nat_le, None, number_of, Ok, Option, Profile, refl, Result, Some, subst, sym, text_after, true, true≢false, words_of, ℕ, ◌∙◌}
use Rattle.script_commands.specs.{Commands.{asking, asking_this, command_of_words, crowd_command, crowd_with, files_command, link_command, node_command, node_with, part_command, plan_command, profile_command, profile_with, put_command, sweep_command, with_name_and_word, with_node, with_node_and_word, with_two_names, workers_command, workers_with}, declared.commands.{Command.{Command, TheVariants.{Ask, Cat, Crowd, Files, Link, Merge, Node, Part, Put, Remove, Same, Send, Sweep, Text, Workers}}, LineRefusal.{LineRefusal, TheVariants.{Arguments, UnknownCommand}}}, HostLaws.{node_word-read}, Hosts.{host_in, node_in, node_word}, Profiles.{profile_of, profile_of-profile_word, profile_word-profile_of}, WrittenLaws.{AreWordsOf, BeginsWithVerb, IsName, IsOneOf, JustItsWordsAreRead, node_word_is_cut, OthersAreRefused, verbs}}
use Rattle.script_commands.specs.declared.commands.Command.TheVariants as command
use Rattle.script_commands.specs.declared.commands.Inquiry.TheVariants as inquiry

-- No other words.

one_command : (a b : Command) → ◌≡◌ {A = Result Command LineRefusal} (Ok a) (Ok b) → a ≡ b
one_command a b e = cc

never : (refusal : LineRefusal) (c : Command) → ◌≡◌ {A = Result Command LineRefusal} (Err refusal) (Ok c) → ⊥
never refusal c e = cc

module _ (c : Command) (line : List ℕ) where
  -- a command that is read only if a test holds
  read_where : (t : Bool) (command : Command) (words : List (List ℕ)) → (t ≡ true → AreWordsOf command words line)
      → ◌≡◌ {A = Result Command LineRefusal} (cond t (Ok command) (Err Arguments)) (Ok c) → AreWordsOf c words line
  read_where true command words are e = subst (λ (d : Command). AreWordsOf d words line) (one_command command c e) (are refl)
  read_where false command words are e = absurd (never Arguments c e)

  name_and_word_read : (verb : List ℕ) (command : List ℕ → List ℕ → Command)
      → ((name word : List ℕ) → IsName name → AreWordsOf (command name word) (verb ∷ name ∷ word ∷ []) line)
      → (words : List (List ℕ)) → with_name_and_word command words ≡ Ok c → AreWordsOf c (verb ∷ words) line
  name_and_word_read verb command are (name ∷ word ∷ []) e =
      read_where (is_name name) (command name word) (verb ∷ name ∷ word ∷ []) (are name word) e
  name_and_word_read verb command are words e = absurd (never Arguments c e)

  node_and_word_read : (verb : List ℕ) (command : List ℕ → Option (List ℕ) → List ℕ → Command)
      → ((node : List ℕ) (host : Option (List ℕ)) (word : List ℕ) → IsName node
      → AreWordsOf (command node host word) (verb ∷ node_word node host ∷ word ∷ []) line)
      → (words : List (List ℕ)) → with_node_and_word command words ≡ Ok c → AreWordsOf c (verb ∷ words) line
  node_and_word_read verb command are (first ∷ word ∷ []) e =
      read_where (is_name (node_in first)) (command (node_in first) (host_in first) word) (verb ∷ first ∷ word ∷ [])
      (λ named. subst (λ (v : List ℕ). AreWordsOf (command (node_in first) (host_in first) word) (verb ∷ v ∷ word ∷ []) line) (node_word-read first)
      (are (node_in first) (host_in first) word named)) e
  node_and_word_read verb command are words e = absurd (never Arguments c e)

  two_names_read : (verb : List ℕ) (command : List ℕ → List ℕ → Command)
      → ((first second : List ℕ) → IsName first → IsName second → AreWordsOf (command first second) (verb ∷ first ∷ second ∷ []) line)
      → (words : List (List ℕ)) → with_two_names command words ≡ Ok c → AreWordsOf c (verb ∷ words) line
  two_names_read verb command are (first ∷ second ∷ []) e =
      read_where (is_name first && is_name second) (command first second) (verb ∷ first ∷ second ∷ [])
      (λ both. let named = and_parts (is_name first) (is_name second) both in are first second named.0 named.1) e
  two_names_read verb command are words e = absurd (never Arguments c e)

  node_read : (words : List (List ℕ)) → node_command words ≡ Ok c → AreWordsOf c (codes "node" ∷ words) line
  node_read (name ∷ number ∷ []) e = by (number_of number) refl e
    where
      by : (o : Option ℕ) → number_of number ≡ o → node_with name o ≡ Ok c → AreWordsOf c (codes "node" ∷ name ∷ number ∷ []) line
      by None is e = absurd (never Arguments c e)
      by (Some writer) is e =
          read_where (is_name name) (Node name writer) (codes "node" ∷ name ∷ number ∷ []) (λ named. (number, refl, is, named)) e
  node_read words e = absurd (never Arguments c e)

  put_read : (words : List (List ℕ)) → put_command words (text_after 3 line) ≡ Ok c → AreWordsOf c (codes "put" ∷ words) line
  put_read (node ∷ place ∷ rest) e =
      read_where (is_name node) (Put node place (text_after 3 line)) (codes "put" ∷ node ∷ place ∷ rest)
      (λ named. (rest, refl, refl, named)) e
  put_read words e = absurd (never Arguments c e)

  link_read : (words : List (List ℕ)) → link_command words ≡ Ok c → AreWordsOf c (codes "link" ∷ words) line
  link_read (node ∷ place ∷ target ∷ []) e =
      read_where (is_name node) (Link node place target) (codes "link" ∷ node ∷ place ∷ target ∷ []) (λ named. (refl, named)) e
  link_read words e = absurd (never Arguments c e)

  part_read : (words : List (List ℕ)) → part_command words ≡ Ok c → AreWordsOf c (codes "part" ∷ words) line
  part_read (piece ∷ from ∷ to ∷ places) e =
      read_where (is_name piece && is_name from && is_name to) (Part piece from to places) (codes "part" ∷ piece ∷ from ∷ to ∷ places)
      (λ all. let are = and_parts (is_name piece && is_name from) (is_name to) all in
      let first = and_parts (is_name piece) (is_name from) are.0 in
      (refl, first.0, first.1, are.1)) e
  part_read words e = absurd (never Arguments c e)

  sweep_read : (words : List (List ℕ)) → sweep_command words ≡ Ok c → AreWordsOf c (codes "sweep" ∷ words) line
  sweep_read [] e = read_where true Sweep (codes "sweep" ∷ []) (λ _. refl) e
  sweep_read words e = absurd (never Arguments c e)

  files_read : (words : List (List ℕ)) → files_command words ≡ Ok c → AreWordsOf c (codes "files" ∷ words) line
  files_read (node ∷ []) e = read_where (is_name node) (Files node) (codes "files" ∷ node ∷ []) (λ named. (refl, named)) e
  files_read words e = absurd (never Arguments c e)

  plan_read : (words : List (List ℕ)) → plan_command words ≡ Ok c → AreWordsOf c (codes "plan" ∷ words) line
  plan_read (first ∷ unit ∷ running) e =
      read_where (is_name (node_in first)) (Ask (node_in first) (host_in first) (inquiry.Plan unit running)) (codes "plan" ∷ first ∷ unit ∷ running)
      (λ named. (ap (λ v. codes "plan" ∷ v ∷ unit ∷ running) (sym (node_word-read first)), named)) e
  plan_read words e = absurd (never Arguments c e)

  node_read_alone : (verb : List ℕ) (command : List ℕ → Option (List ℕ) → Command)
      → ((node : List ℕ) (host : Option (List ℕ)) (words : List (List ℕ)) → words ≡ verb ∷ node_word node host ∷ []
      → IsName node → AreWordsOf (command node host) words line)
      → (words : List (List ℕ)) → with_node command words ≡ Ok c → AreWordsOf c (verb ∷ words) line
  node_read_alone verb command are (first ∷ []) e =
      read_where (is_name (node_in first)) (command (node_in first) (host_in first)) (verb ∷ first ∷ [])
      (λ named. are (node_in first) (host_in first) (verb ∷ first ∷ []) (ap (λ v. verb ∷ v ∷ []) (sym (node_word-read first))) named) e
  node_read_alone verb command are words e = absurd (never Arguments c e)

  workers_read : (words : List (List ℕ)) → workers_command words ≡ Ok c → AreWordsOf c (codes "workers" ∷ words) line
  workers_read (number ∷ []) e = by (number_of number) refl e
    where
      by : (o : Option ℕ) → number_of number ≡ o → workers_with o ≡ Ok c → AreWordsOf c (codes "workers" ∷ number ∷ []) line
      by None is e = absurd (never Arguments c e)
      by (Some count) is e = read_where true (Workers count) (codes "workers" ∷ number ∷ []) (λ _. (number, refl, is)) e
  workers_read words e = absurd (never Arguments c e)

  profile_read : (words : List (List ℕ)) → profile_command words ≡ Ok c → AreWordsOf c (codes "profile" ∷ words) line
  profile_read (name ∷ []) e = by (profile_of name) refl e
    where
      by : (o : Option Profile) → profile_of name ≡ o → profile_with o ≡ Ok c → AreWordsOf c (codes "profile" ∷ name ∷ []) line
      by None is e = absurd (never Arguments c e)
      by (Some profile) is e =
          read_where true (command.Profile profile) (codes "profile" ∷ name ∷ [])
          (λ _. ap (λ v. codes "profile" ∷ v ∷ []) (profile_word-profile_of name profile is)) e
  profile_read words e = absurd (never Arguments c e)

  crowd_read : (words : List (List ℕ)) → crowd_command words ≡ Ok c → AreWordsOf c (codes "crowd" ∷ words) line
  crowd_read (node ∷ first ∷ second ∷ []) e = by (number_of first) (number_of second) refl refl e
    where
      by : (a b : Option ℕ) → number_of first ≡ a → number_of second ≡ b → crowd_with node a b ≡ Ok c
          → AreWordsOf c (codes "crowd" ∷ node ∷ first ∷ second ∷ []) line
      by None b is and e = absurd (never Arguments c e)
      by (Some seats) None is and e = absurd (never Arguments c e)
      by (Some seats) (Some edits) is and e =
          read_where (is_name node && nat_le edits 1000) (Crowd node seats edits) (codes "crowd" ∷ node ∷ first ∷ second ∷ [])
          (λ both. let are = and_parts (is_name node) (nat_le edits 1000) both in
          (first, second, refl, is, and, are.0, leb-true edits 1000 are.1)) e
  crowd_read words e = absurd (never Arguments c e)

  -- the first word is the tested verb, or the next test decides
  verb_or : (verb name : List ℕ) (words : List (List ℕ)) (here later : Result Command LineRefusal) → ◌≡◌ {A = Result Command LineRefusal} (cond (bytes_eq verb name) here later) (Ok c)
      → (here ≡ Ok c → AreWordsOf c (name ∷ words) line) → (later ≡ Ok c → AreWordsOf c (verb ∷ words) line)
      → AreWordsOf c (verb ∷ words) line
  verb_or verb name words here later e is other = by (bytes_eq verb name) refl e
    where
      by : (b : Bool) → bytes_eq verb name ≡ b → ◌≡◌ {A = Result Command LineRefusal} (cond b here later) (Ok c) → AreWordsOf c (verb ∷ words) line
      by true same e = subst (λ (v : List ℕ). AreWordsOf c (v ∷ words) line) (sym ((bytes_eq-Decides verb name).0 same)) (is e)
      by false same e = other e

  read_words_of : (words : List (List ℕ)) → command_of_words words line ≡ Ok c → AreWordsOf c words line
  read_words_of [] e = absurd (never UnknownCommand c e)
  read_words_of (verb ∷ words) e =
      verb_or verb (codes "node") words (node_command words) _ e (node_read words) (λ e0.
      verb_or verb (codes "put") words (put_command words (text_after 3 line)) _ e0 (put_read words) (λ e1.
      verb_or verb (codes "link") words (link_command words) _ e1 (link_read words) (λ e2.
      verb_or verb (codes "remove") words (with_name_and_word Remove words) _ e2
      (name_and_word_read (codes "remove") Remove (λ node place named. (refl, named)) words) (λ e3.
      verb_or verb (codes "merge") words (with_two_names Merge words) _ e3
      (two_names_read (codes "merge") Merge (λ from to is and. (refl, is, and)) words) (λ e4.
      verb_or verb (codes "part") words (part_command words) _ e4 (part_read words) (λ e5.
      verb_or verb (codes "send") words (with_two_names Send words) _ e5
      (two_names_read (codes "send") Send (λ piece node is and. (refl, is, and)) words) (λ e6.
      verb_or verb (codes "sweep") words (sweep_command words) _ e6 (sweep_read words) (λ e7.
      verb_or verb (codes "files") words (files_command words) _ e7 (files_read words) (λ e8.
      verb_or verb (codes "text") words (with_name_and_word Text words) _ e8
      (name_and_word_read (codes "text") Text (λ node place named. (refl, named)) words) (λ e9.
      verb_or verb (codes "workers") words (workers_command words) _ e9 (workers_read words) (λ e10.
      verb_or verb (codes "profile") words (profile_command words) _ e10 (profile_read words) (λ e11.
      verb_or verb (codes "same") words (with_two_names Same words) _ e11
      (two_names_read (codes "same") Same (λ left right is and. (refl, is, and)) words) (λ e12.
      verb_or verb (codes "crowd") words (crowd_command words) _ e12 (crowd_read words) (λ e13.
      verb_or verb (codes "cat") words (with_node_and_word Cat words) _ e13
      (node_and_word_read (codes "cat") Cat (λ node host unit named. (refl, named)) words) (λ e14.
      verb_or verb (codes "show") words (with_node_and_word (asking inquiry.Unit) words) _ e14
      (node_and_word_read (codes "show") (asking inquiry.Unit) (λ node host unit named. (refl, named)) words) (λ e15.
      verb_or verb (codes "list") words (with_node_and_word (asking inquiry.List) words) _ e15
      (node_and_word_read (codes "list") (asking inquiry.List) (λ node host unit named. (refl, named)) words) (λ e16.
      verb_or verb (codes "plan") words (plan_command words) _ e16 (plan_read words) (λ e17.
      verb_or verb (codes "units") words (with_node (asking_this inquiry.Units) words) _ e17
      (node_read_alone (codes "units") (asking_this inquiry.Units) (λ node host words same named. (same, named)) words) (λ e18.
      verb_or verb (codes "tree") words (with_node (asking_this inquiry.Tree) words) _ e18
      (node_read_alone (codes "tree") (asking_this inquiry.Tree) (λ node host words same named. (same, named)) words) (λ e19.
      absurd (never UnknownCommand c e19)))))))))))))))))))))

-- lines with these words are read
read_as : (c : Command) (words : List (List ℕ)) (line : List ℕ) → AreWordsOf c words line → command_of_words words line ≡ Ok c
read_as (Node name writer) words line (number, same, is, named) = ap (λ v. command_of_words v line) same ∙ ap (node_with name) is ∙ cond-true _ _ _ named
read_as (Put node place text) words line (rest, same, is, named) =
    ap (λ v. command_of_words v line) same ∙ cond-true _ _ _ named ∙ ap (λ v. Ok (Put node place v)) (sym is)
read_as (Link node place target) words line (same, named) = ap (λ v. command_of_words v line) same ∙ cond-true _ _ _ named
read_as (Remove node place) words line (same, named) = ap (λ v. command_of_words v line) same ∙ cond-true _ _ _ named
read_as (Merge from to) words line (same, is, and) = ap (λ v. command_of_words v line) same ∙ cond-true _ _ _ (and_from _ _ is and)
read_as (Part piece from to places) words line (same, named, is, and) =
    ap (λ v. command_of_words v line) same ∙ cond-true _ _ _ (and_from _ _ (and_from _ _ named is) and)
read_as (Send piece node) words line (same, named, is) = ap (λ v. command_of_words v line) same ∙ cond-true _ _ _ (and_from _ _ named is)
read_as Sweep words line same = ap (λ v. command_of_words v line) same
read_as (Files node) words line (same, named) = ap (λ v. command_of_words v line) same ∙ cond-true _ _ _ named
read_as (Text node place) words line (same, named) = ap (λ v. command_of_words v line) same ∙ cond-true _ _ _ named
read_as (Cat node host unit) words line (same, named) =
    ap (λ v. command_of_words v line) same ∙ node_word_is_cut node host (λ n h. Cat n h unit) named
read_as (Ask node host (inquiry.Unit unit)) words line (same, named) =
    ap (λ v. command_of_words v line) same ∙ node_word_is_cut node host (λ n h. Ask n h (inquiry.Unit unit)) named
read_as (Ask node host (inquiry.List unit)) words line (same, named) =
    ap (λ v. command_of_words v line) same ∙ node_word_is_cut node host (λ n h. Ask n h (inquiry.List unit)) named
read_as (Ask node host (inquiry.Plan unit running)) words line (same, named) =
    ap (λ v. command_of_words v line) same ∙ node_word_is_cut node host (λ n h. Ask n h (inquiry.Plan unit running)) named
read_as (Ask node host inquiry.Units) words line (same, named) =
    ap (λ v. command_of_words v line) same ∙ node_word_is_cut node host (asking_this inquiry.Units) named
read_as (Ask node host inquiry.Tree) words line (same, named) =
    ap (λ v. command_of_words v line) same ∙ node_word_is_cut node host (asking_this inquiry.Tree) named
read_as (Workers count) words line (number, same, is) = ap (λ v. command_of_words v line) same ∙ ap workers_with is
read_as (command.Profile profile) words line same = ap (λ v. command_of_words v line) same ∙ ap profile_with (profile_of-profile_word profile)
read_as (Same left right) words line (same, is, and) = ap (λ v. command_of_words v line) same ∙ cond-true _ _ _ (and_from _ _ is and)
read_as (Crowd node seats edits) words line (first, second, same, is, and, named, few) =
    ap (λ v. command_of_words v line) same ∙ ap (λ v. crowd_with node v (number_of second)) is ∙ ap (crowd_with node (Some seats)) and ∙ cond-true _ _ _ (and_from _ _ named (le-leb edits 1000 few))

pub just_its_words_are_read : JustItsWordsAreRead
just_its_words_are_read line command = (λ e. read_words_of command line (words_of line) e, λ are. read_as command (words_of line) line are)

-- Why a line isn't a command.

same_refusal : (r other : LineRefusal) → ◌≡◌ {A = Result Command LineRefusal} (Err other) (Err r) → r ≡ other
same_refusal r other e = cc

done : (c : Command) (r : LineRefusal) → ◌≡◌ {A = Result Command LineRefusal} (Ok c) (Err r) → ⊥
done c r e = cc

refused_where : (t : Bool) (command : Command) (r : LineRefusal) → ◌≡◌ {A = Result Command LineRefusal} (cond t (Ok command) (Err Arguments)) (Err r) → r ≡ Arguments
refused_where true command r e = absurd (done command r e)
refused_where false command r e = same_refusal r Arguments e

module _ (r : LineRefusal) (line : List ℕ) where
  name_and_word_refused : (command : List ℕ → List ℕ → Command) (words : List (List ℕ))
      → with_name_and_word command words ≡ Err r → r ≡ Arguments
  name_and_word_refused command (name ∷ word ∷ []) e = refused_where (is_name name) (command name word) r e
  name_and_word_refused command words e = same_refusal r Arguments e

  node_and_word_refused : (command : List ℕ → Option (List ℕ) → List ℕ → Command) (words : List (List ℕ))
      → with_node_and_word command words ≡ Err r → r ≡ Arguments
  node_and_word_refused command (first ∷ word ∷ []) e = refused_where (is_name (node_in first)) (command (node_in first) (host_in first) word) r e
  node_and_word_refused command words e = same_refusal r Arguments e

  two_names_refused : (command : List ℕ → List ℕ → Command) (words : List (List ℕ))
      → with_two_names command words ≡ Err r → r ≡ Arguments
  two_names_refused command (first ∷ second ∷ []) e = refused_where (is_name first && is_name second) (command first second) r e
  two_names_refused command words e = same_refusal r Arguments e

  node_refused : (words : List (List ℕ)) → node_command words ≡ Err r → r ≡ Arguments
  node_refused (name ∷ number ∷ []) e = by (number_of number) e
    where
      by : (o : Option ℕ) → node_with name o ≡ Err r → r ≡ Arguments
      by None e = same_refusal r Arguments e
      by (Some writer) e = refused_where (is_name name) (Node name writer) r e
  node_refused words e = same_refusal r Arguments e

  put_refused : (words : List (List ℕ)) → put_command words (text_after 3 line) ≡ Err r → r ≡ Arguments
  put_refused (node ∷ place ∷ rest) e = refused_where (is_name node) (Put node place (text_after 3 line)) r e
  put_refused words e = same_refusal r Arguments e

  link_refused : (words : List (List ℕ)) → link_command words ≡ Err r → r ≡ Arguments
  link_refused (node ∷ place ∷ target ∷ []) e = refused_where (is_name node) (Link node place target) r e
  link_refused words e = same_refusal r Arguments e

  part_refused : (words : List (List ℕ)) → part_command words ≡ Err r → r ≡ Arguments
  part_refused (piece ∷ from ∷ to ∷ places) e = refused_where (is_name piece && is_name from && is_name to) (Part piece from to places) r e
  part_refused words e = same_refusal r Arguments e

  sweep_refused : (words : List (List ℕ)) → sweep_command words ≡ Err r → r ≡ Arguments
  sweep_refused [] e = absurd (done Sweep r e)
  sweep_refused words e = same_refusal r Arguments e

  files_refused : (words : List (List ℕ)) → files_command words ≡ Err r → r ≡ Arguments
  files_refused (node ∷ []) e = refused_where (is_name node) (Files node) r e
  files_refused words e = same_refusal r Arguments e

  plan_refused : (words : List (List ℕ)) → plan_command words ≡ Err r → r ≡ Arguments
  plan_refused (first ∷ unit ∷ running) e = refused_where (is_name (node_in first)) (Ask (node_in first) (host_in first) (inquiry.Plan unit running)) r e
  plan_refused words e = same_refusal r Arguments e

  node_refused_alone : (command : List ℕ → Option (List ℕ) → Command) (words : List (List ℕ))
      → with_node command words ≡ Err r → r ≡ Arguments
  node_refused_alone command (first ∷ []) e = refused_where (is_name (node_in first)) (command (node_in first) (host_in first)) r e
  node_refused_alone command words e = same_refusal r Arguments e

  workers_refused : (words : List (List ℕ)) → workers_command words ≡ Err r → r ≡ Arguments
  workers_refused (number ∷ []) e = by (number_of number) e
    where
      by : (o : Option ℕ) → workers_with o ≡ Err r → r ≡ Arguments
      by None e = same_refusal r Arguments e
      by (Some count) e = absurd (done (Workers count) r e)
  workers_refused words e = same_refusal r Arguments e

  profile_refused : (words : List (List ℕ)) → profile_command words ≡ Err r → r ≡ Arguments
  profile_refused (name ∷ []) e = by (profile_of name) e
    where
      by : (o : Option Profile) → profile_with o ≡ Err r → r ≡ Arguments
      by None e = same_refusal r Arguments e
      by (Some profile) e = absurd (done (command.Profile profile) r e)
  profile_refused words e = same_refusal r Arguments e

  crowd_refused : (words : List (List ℕ)) → crowd_command words ≡ Err r → r ≡ Arguments
  crowd_refused (node ∷ first ∷ second ∷ []) e = by (number_of first) (number_of second) e
    where
      by : (a b : Option ℕ) → crowd_with node a b ≡ Err r → r ≡ Arguments
      by None b e = same_refusal r Arguments e
      by (Some seats) None e = same_refusal r Arguments e
      by (Some seats) (Some edits) e = refused_where (is_name node && nat_le edits 1000) (Crowd node seats edits) r e
  crowd_refused words e = same_refusal r Arguments e

  abbrev IsWhy : List ℕ → List (List ℕ) → Type 0
  IsWhy verb names = (IsOneOf verb names × (r ≡ Arguments)) ⊎ ((IsOneOf verb names → ⊥) × (r ≡ UnknownCommand))

  refused_at : (verb name : List ℕ) (names : List (List ℕ)) (here later : Result Command LineRefusal) → ◌≡◌ {A = Result Command LineRefusal} (cond (bytes_eq verb name) here later) (Err r)
      → (here ≡ Err r → r ≡ Arguments) → (later ≡ Err r → IsWhy verb names) → IsWhy verb (name ∷ names)
  refused_at verb name names here later e is other = by (bytes_eq verb name) refl e
    where
      more : bytes_eq verb name ≡ false → IsWhy verb names → IsWhy verb (name ∷ names)
      more apart (inl why) = inl (inr why.0, why.1)
      more apart (inr why) = inr (none, why.1)
        where
          none : (verb ≡ name) ⊎ IsOneOf verb names → ⊥
          none (inl same) = true≢false (sym ((bytes_eq-Decides verb name).1 same) ∙ apart)
          none (inr one) = why.0 one

      by : (b : Bool) → bytes_eq verb name ≡ b → ◌≡◌ {A = Result Command LineRefusal} (cond b here later) (Err r) → IsWhy verb (name ∷ names)
      by true same e = inl (inl ((bytes_eq-Decides verb name).0 same), is e)
      by false apart e = more apart (other e)

  why_refused : (words : List (List ℕ)) → command_of_words words line ≡ Err r
      → (BeginsWithVerb words × (r ≡ Arguments)) ⊎ ((BeginsWithVerb words → ⊥) × (r ≡ UnknownCommand))
  why_refused [] e = inr (λ none. none, same_refusal r UnknownCommand e)
  why_refused (verb ∷ words) e =
      refused_at verb (codes "node") (drop 1 verbs) (node_command words) _ e (node_refused words) (λ e0.
      refused_at verb (codes "put") (drop 2 verbs) (put_command words (text_after 3 line)) _ e0 (put_refused words) (λ e1.
      refused_at verb (codes "link") (drop 3 verbs) (link_command words) _ e1 (link_refused words) (λ e2.
      refused_at verb (codes "remove") (drop 4 verbs) (with_name_and_word Remove words) _ e2 (name_and_word_refused Remove words) (λ e3.
      refused_at verb (codes "merge") (drop 5 verbs) (with_two_names Merge words) _ e3 (two_names_refused Merge words) (λ e4.
      refused_at verb (codes "part") (drop 6 verbs) (part_command words) _ e4 (part_refused words) (λ e5.
      refused_at verb (codes "send") (drop 7 verbs) (with_two_names Send words) _ e5 (two_names_refused Send words) (λ e6.
      refused_at verb (codes "sweep") (drop 8 verbs) (sweep_command words) _ e6 (sweep_refused words) (λ e7.
      refused_at verb (codes "files") (drop 9 verbs) (files_command words) _ e7 (files_refused words) (λ e8.
      refused_at verb (codes "text") (drop 10 verbs) (with_name_and_word Text words) _ e8 (name_and_word_refused Text words) (λ e9.
      refused_at verb (codes "workers") (drop 11 verbs) (workers_command words) _ e9 (workers_refused words) (λ e10.
      refused_at verb (codes "profile") (drop 12 verbs) (profile_command words) _ e10 (profile_refused words) (λ e11.
      refused_at verb (codes "same") (drop 13 verbs) (with_two_names Same words) _ e11 (two_names_refused Same words) (λ e12.
      refused_at verb (codes "crowd") (drop 14 verbs) (crowd_command words) _ e12 (crowd_refused words) (λ e13.
      refused_at verb (codes "cat") (drop 15 verbs) (with_node_and_word Cat words) _ e13 (node_and_word_refused Cat words) (λ e14.
      refused_at verb (codes "show") (drop 16 verbs) (with_node_and_word (asking inquiry.Unit) words) _ e14 (node_and_word_refused (asking inquiry.Unit) words) (λ e15.
      refused_at verb (codes "list") (drop 17 verbs) (with_node_and_word (asking inquiry.List) words) _ e15 (node_and_word_refused (asking inquiry.List) words) (λ e16.
      refused_at verb (codes "plan") (drop 18 verbs) (plan_command words) _ e16 (plan_refused words) (λ e17.
      refused_at verb (codes "units") (drop 19 verbs) (with_node (asking_this inquiry.Units) words) _ e17 (node_refused_alone (asking_this inquiry.Units) words) (λ e18.
      refused_at verb (codes "tree") (drop 20 verbs) (with_node (asking_this inquiry.Tree) words) _ e18 (node_refused_alone (asking_this inquiry.Tree) words) (λ e19.
      inr (λ none. none, same_refusal r UnknownCommand e19)))))))))))))))))))))

pub others_are_refused : OthersAreRefused
others_are_refused line refusal e = why_refused refusal line (words_of line) e
