-- The bytes in a block that copies share.
-- Source: this project's own.
use Rattle.plain_values.specs.{declared.shared.Block.{Block, TheVariants.{Far, Near}}, Prelude.{List, ℕ}}

abbrev pub block_bytes : Block → List ℕ
block_bytes (Near bytes) = bytes
block_bytes (Far bytes) = bytes.items
