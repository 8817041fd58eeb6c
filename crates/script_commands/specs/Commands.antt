-- The command that a line asks for.
-- Source: this project's own.
use Rattle.std.proofs.Common.{if◌then◌else◌, ◌&&◌, ◌∷◌}
use Rattle.script_commands.specs.Prelude.{[], bytes_eq, codes, Err, is_name, List, nat_le, None, number_of, Ok, Option, Profile, Result, Some, text_after, words_of, ℕ}
use Rattle.script_commands.specs.{declared.commands.{Command.{Command, TheVariants.{Ask, Cat, Crowd, Files, Link, Merge, Node, Part, Put, Remove, Same, Send, Sweep, Text, Workers}}, Inquiry.{Inquiry}, LineRefusal.{LineRefusal, TheVariants.{Arguments, UnknownCommand}}}, Hosts.{host_in, node_in}, Profiles.{profile_of}}
use Rattle.script_commands.specs.declared.commands.Command.TheVariants as command
use Rattle.script_commands.specs.declared.commands.Inquiry.TheVariants as inquiry

-- a command with a name and a word
abbrev pub with_name_and_word : (List ℕ → List ℕ → Command) → List (List ℕ) → Result Command LineRefusal
with_name_and_word command (name ∷ word ∷ []) = if is_name name then Ok (command name word) else Err Arguments
with_name_and_word command words = Err Arguments

-- a command with a node, the host that it is asked for, and a word: the node is the part of its word before the first
-- at sign, or the whole word if there is none; the host is the part after it, which isn't parsed
abbrev pub with_node_and_word : (List ℕ → Option (List ℕ) → List ℕ → Command) → List (List ℕ) → Result Command LineRefusal
with_node_and_word command (first ∷ word ∷ []) = if is_name (node_in first) then Ok (command (node_in first) (host_in first) word) else Err Arguments
with_node_and_word command words = Err Arguments

-- a command that asks about a node's units, with a word
abbrev pub asking : (List ℕ → Inquiry) → List ℕ → Option (List ℕ) → List ℕ → Command
asking inquiry_of node host word = Ask node host (inquiry_of word)

-- a command with two names
abbrev pub with_two_names : (List ℕ → List ℕ → Command) → List (List ℕ) → Result Command LineRefusal
with_two_names command (first ∷ second ∷ []) = if is_name first && is_name second then Ok (command first second) else Err Arguments
with_two_names command words = Err Arguments

abbrev pub node_with : List ℕ → Option ℕ → Result Command LineRefusal
node_with name None = Err Arguments
node_with name (Some writer) = if is_name name then Ok (Node name writer) else Err Arguments

abbrev pub node_command : List (List ℕ) → Result Command LineRefusal
node_command (name ∷ writer ∷ []) = node_with name (number_of writer)
node_command words = Err Arguments

-- the text is everything after the place and one space
abbrev pub put_command : List (List ℕ) → List ℕ → Result Command LineRefusal
put_command (node ∷ place ∷ words) text = if is_name node then Ok (Put node place text) else Err Arguments
put_command words text = Err Arguments

abbrev pub link_command : List (List ℕ) → Result Command LineRefusal
link_command (node ∷ place ∷ target ∷ []) = if is_name node then Ok (Link node place target) else Err Arguments
link_command words = Err Arguments

-- the places are the remaining words; there may be none
abbrev pub part_command : List (List ℕ) → Result Command LineRefusal
part_command (piece ∷ from ∷ to ∷ places) = if is_name piece && is_name from && is_name to then Ok (Part piece from to places) else Err Arguments
part_command words = Err Arguments

abbrev pub sweep_command : List (List ℕ) → Result Command LineRefusal
sweep_command [] = Ok Sweep
sweep_command words = Err Arguments

abbrev pub files_command : List (List ℕ) → Result Command LineRefusal
files_command (node ∷ []) = if is_name node then Ok (Files node) else Err Arguments
files_command words = Err Arguments

-- the node and its host are one word, as in `with_node_and_word`; the running units are the remaining words; there may
-- be none
abbrev pub plan_command : List (List ℕ) → Result Command LineRefusal
plan_command (first ∷ unit ∷ running) = if is_name (node_in first) then Ok (Ask (node_in first) (host_in first) (inquiry.Plan unit running)) else Err Arguments
plan_command words = Err Arguments

-- the node and its host are the only word, as in `with_node_and_word`
abbrev pub with_node : (List ℕ → Option (List ℕ) → Command) → List (List ℕ) → Result Command LineRefusal
with_node command (first ∷ []) = if is_name (node_in first) then Ok (command (node_in first) (host_in first)) else Err Arguments
with_node command words = Err Arguments

-- a command that asks this about a node
abbrev pub asking_this : Inquiry → List ℕ → Option (List ℕ) → Command
asking_this inquiry node host = Ask node host inquiry

abbrev pub workers_with : Option ℕ → Result Command LineRefusal
workers_with None = Err Arguments
workers_with (Some count) = Ok (Workers count)

abbrev pub workers_command : List (List ℕ) → Result Command LineRefusal
workers_command (count ∷ []) = workers_with (number_of count)
workers_command words = Err Arguments

abbrev pub profile_with : Option Profile → Result Command LineRefusal
profile_with None = Err Arguments
profile_with (Some profile) = Ok (command.Profile profile)

abbrev pub profile_command : List (List ℕ) → Result Command LineRefusal
profile_command (name ∷ []) = profile_with (profile_of name)
profile_command words = Err Arguments

-- a 32-bit number, and at most 1,000 edits
abbrev pub crowd_with : List ℕ → Option ℕ → Option ℕ → Result Command LineRefusal
crowd_with node None edits = Err Arguments
crowd_with node (Some seats) None = Err Arguments
crowd_with node (Some seats) (Some edits) = if is_name node && nat_le edits 1000 then Ok (Crowd node seats edits) else Err Arguments

abbrev pub crowd_command : List (List ℕ) → Result Command LineRefusal
crowd_command (node ∷ seats ∷ edits ∷ []) = crowd_with node (number_of seats) (number_of edits)
crowd_command words = Err Arguments

-- the first word names the command, which asks for units of a node, as one host or all hosts have them
abbrev pub unit_question_of : List ℕ → List (List ℕ) → Result Command LineRefusal
unit_question_of verb words =
    if bytes_eq verb (codes "cat") then with_node_and_word Cat words
    else (if bytes_eq verb (codes "show") then with_node_and_word (asking inquiry.Unit) words
    else (if bytes_eq verb (codes "list") then with_node_and_word (asking inquiry.List) words
    else (if bytes_eq verb (codes "plan") then plan_command words
    else (if bytes_eq verb (codes "units") then with_node (asking_this inquiry.Units) words
    else (if bytes_eq verb (codes "tree") then with_node (asking_this inquiry.Tree) words
    else Err UnknownCommand)))))

-- the first word names the command, which changes no node
abbrev pub question_of : List ℕ → List (List ℕ) → Result Command LineRefusal
question_of verb words =
    if bytes_eq verb (codes "files") then files_command words
    else (if bytes_eq verb (codes "text") then with_name_and_word Text words
    else (if bytes_eq verb (codes "workers") then workers_command words
    else (if bytes_eq verb (codes "profile") then profile_command words
    else (if bytes_eq verb (codes "same") then with_two_names Same words
    else (if bytes_eq verb (codes "crowd") then crowd_command words
    else unit_question_of verb words)))))

-- the first word names the command, which brings to one node what another holds, or changes none
abbrev pub exchange_of : List ℕ → List (List ℕ) → Result Command LineRefusal
exchange_of verb words =
    if bytes_eq verb (codes "merge") then with_two_names Merge words
    else (if bytes_eq verb (codes "part") then part_command words
    else (if bytes_eq verb (codes "send") then with_two_names Send words
    else (if bytes_eq verb (codes "sweep") then sweep_command words
    else question_of verb words)))

-- the first word names the command; the text is everything after two more words and one space
abbrev pub change_of : List ℕ → List (List ℕ) → List ℕ → Result Command LineRefusal
change_of verb words text =
    if bytes_eq verb (codes "node") then node_command words
    else (if bytes_eq verb (codes "put") then put_command words text
    else (if bytes_eq verb (codes "link") then link_command words
    else (if bytes_eq verb (codes "remove") then with_name_and_word Remove words
    else exchange_of verb words)))

-- the command of a line with these words
abbrev pub command_of_words : List (List ℕ) → List ℕ → Result Command LineRefusal
command_of_words [] line = Err UnknownCommand
command_of_words (verb ∷ words) line = change_of verb words (text_after 3 line)

-- the command of a line, or why it isn't one
abbrev pub command_of : List ℕ → Result Command LineRefusal
command_of line = command_of_words (words_of line) line
