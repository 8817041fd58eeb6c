-- The bytes that a byte string holds, whether inline or shared.
-- Source: this project's own.
use Rattle.plain_values.specs.{declared.bytes.Held.{Held, TheVariants.{Shared, Short}}, Prelude.{List, ℕ}}

abbrev pub held_bytes : Held → List ℕ
held_bytes (Short bytes) = bytes
held_bytes (Shared bytes) = bytes
