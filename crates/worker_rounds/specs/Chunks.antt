-- Lists cut into chunks, and what is made of the chunks.
-- Source: this project's own.
use Rattle.std.proofs.Common.{◌<◌, ◌≡◌}
use Rattle.worker_rounds.specs.{declared.chunks.Chunk.{Chunk}, Joined.{IsJoined}, Prelude.{All, flat_map, length, List, map, min, range_with_len, Result, Vec, ℕ}}

-- the chunks of some nodes for this many workers: none is empty, there are as many as the lesser of the workers and the
-- nodes, and they are numbered from 0
pub record AreChunks {N : Type 0} (workers : ℕ) (nodes : List N) (chunks : List (Chunk N)) : Type 0 where
  pub whole : flat_map (λ chunk. chunk.nodes.items) chunks ≡ nodes
  pub count : length chunks ≡ min workers (length nodes)
  pub filled : All (λ chunk. 0 < length chunk.nodes.items) chunks
  pub numbered : map (λ chunk. chunk.number) chunks ≡ range_with_len 0 (length chunks)

-- `all` is what the calls return for the chunks of some nodes, concatenated
pub record AreWorked {N X E : Type 0} (gives : List (Chunk N) → List (Result (Vec X) E) → Type 0) (workers : ℕ)
    (nodes : List N) (all : List X) : Type 0 where
  pub chunks : List (Chunk N)
  pub parts : List (Result (Vec X) E)
  pub cut : AreChunks workers nodes chunks
  pub given : gives chunks parts
  pub len : length parts ≡ length chunks
  pub joined : IsJoined parts all
