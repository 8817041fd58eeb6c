-- What holds when a run ends: of a reader whose remaining bytes are known, of a writer whose contents are known, and of what
-- is kept of a world's first node.
-- Source: this project's own.
use Rattle.std.proofs.Common.{◌≤◌, ◌⊎◌}
use Rattle.fleet_script.specs.{Prelude.{Appends, AreAll, EntryMap, FailedSince, held, IsOver, Keeps, length, lines_of, List, Option, ScriptWorld, take, ℕ}, Scripts.{Answers, AnswersPrefix, Run}}

-- a script of at most this many bytes was left, and the answers to it are written
pub record IsAnswered (limit : ℕ) (left held held' : Option (List ℕ)) : Type 0 where
  pub script : List ℕ
  pub answers : List ℕ
  pub read : AreAll left script
  pub within : length script ≤ limit
  pub are_answers : Answers script answers
  pub written : Appends held held' answers

-- a prefix of the answers to the first lines of what was left is written
pub record IsPrefixWritten (left held held' : Option (List ℕ)) : Type 0 where
  pub script : List ℕ
  pub prefix : List ℕ
  pub read : AreAll left script
  pub is_prefix : AnswersPrefix script prefix
  pub written : Appends held held' prefix

-- nothing is written, and a read failed or more was left than the limit
pub record IsUnread (limit : ℕ) (left : Option (List ℕ)) (failures failures' : ℕ) (held held' : Option (List ℕ)) : Type 0 where
  pub kept : Keeps held held'
  pub cause : FailedSince failures failures' ⊎ IsOver limit left

-- a prefix of the answers is written, and a write failed or took nothing
pub record IsUnwritten (left : Option (List ℕ)) (refusals refusals' : ℕ) (held held' : Option (List ℕ)) : Type 0 where
  pub prefix : IsPrefixWritten left held held'
  pub cause : FailedSince refusals refusals'

-- from a first world on the answers to a script are written, and what the first node then holds is kept so
pub record AnswersFrom (first : ScriptWorld) (script : List ℕ) (sink sink' : Option (List ℕ)) (Kept : EntryMap → Type 0) : Type 0 where
  pub answers : List ℕ
  pub last : ScriptWorld
  pub run : Run first (lines_of script) answers last
  pub written : Appends sink sink' answers
  pub kept : Kept (held last 0)

-- from a first world on a prefix of the answers to a script's first lines is written, and what the first node holds after
-- these lines is kept so
pub record PrefixFrom (first : ScriptWorld) (script : List ℕ) (sink sink' : Option (List ℕ)) (Kept : EntryMap → Type 0) : Type 0 where
  pub count : ℕ
  pub answers : List ℕ
  pub last : ScriptWorld
  pub size : ℕ
  pub run : Run first (take count (lines_of script)) answers last
  pub written : Appends sink sink' (take size answers)
  pub kept : Kept (held last 0)

-- a script of at most this many bytes was left, and is answered so
pub record IsAnsweredFrom (first : ScriptWorld) (limit : ℕ) (left sink sink' : Option (List ℕ)) (Kept : EntryMap → Type 0) : Type 0 where
  pub script : List ℕ
  pub read : AreAll left script
  pub within : length script ≤ limit
  pub answered : AnswersFrom first script sink sink' Kept

-- a prefix of the answers to what was left is written so
pub record IsPrefixFrom (first : ScriptWorld) (left sink sink' : Option (List ℕ)) (Kept : EntryMap → Type 0) : Type 0 where
  pub script : List ℕ
  pub read : AreAll left script
  pub prefix : PrefixFrom first script sink sink' Kept
