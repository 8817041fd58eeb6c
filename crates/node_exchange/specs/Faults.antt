-- Faults of what an exchange uses, as its own.
-- Source: this project's own.
use Rattle.byte_fields.specs.declared.faults.DecodeFault.{DecodeFault}
use Rattle.byte_fields.specs.declared.faults.DecodeFault.TheVariants as decode
use Rattle.node_exchange.specs.declared.faults.ExchangeFault.{ExchangeFault}
use Rattle.node_exchange.specs.declared.faults.ExchangeFault.TheVariants.{Bytes, Memory}

abbrev pub fault_of_bytes : DecodeFault → ExchangeFault
fault_of_bytes decode.Memory = Memory
fault_of_bytes (decode.Fault fault) = Bytes fault
