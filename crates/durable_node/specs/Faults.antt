-- A log's refusals, as a node's.
-- Source: this project's own.
use Rattle.edit_log.specs.declared.logs.LogFault.{LogFault}
use Rattle.edit_log.specs.declared.logs.LogFault.TheVariants as log
use Rattle.durable_node.specs.declared.faults.NodeFault.{NodeFault}
use Rattle.durable_node.specs.declared.faults.NodeFault.TheVariants as node

abbrev pub fault_of_log : LogFault → NodeFault
fault_of_log log.Exists = node.Exists
fault_of_log log.NotANode = node.NotANode
fault_of_log log.Busy = node.Busy
fault_of_log log.Disk = node.Disk
fault_of_log log.Memory = node.Memory
