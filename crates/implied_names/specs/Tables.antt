-- What units imply, as tables: which units, by which kinds they name others, and which.
-- Source: "Implicit Dependencies" and "Default Dependencies" in the page of each type of unit; systemd.special(7). That
-- units with state, caches or logs wait for a writable root, those on an image for devices, and mounts of memory for swaps,
-- is what systemd 252 does and no page says.
use Rattle.std.proofs.Common.{◌∷◌}
use Rattle.implied_names.specs.Prelude.{[], After, Before, BindsTo, Conflicts, DepKind, InSlice, List, Requires, TriggeredBy, Triggers, Wants}
use Rattle.implied_names.specs.declared.{roles.Role.{Role}, sources.Source.{Source}, tables.Ways.{Ways}}
use Rattle.implied_names.specs.declared.roles.Role.TheVariants as role
use Rattle.implied_names.specs.declared.sources.Source.TheVariants as source
use Rattle.implied_names.specs.declared.tables.Ways.TheVariants as by

-- the kinds by which a unit names another, in each way
abbrev pub kinds_of : Ways → List DepKind
kinds_of by.After = After ∷ []
kinds_of by.Before = Before ∷ []
kinds_of by.Requires = Requires ∷ []
kinds_of by.BindsTo = BindsTo ∷ []
kinds_of by.RequiresAfter = Requires ∷ After ∷ []
kinds_of by.RequiresAfterInSlice = Requires ∷ After ∷ InSlice ∷ []
kinds_of by.AfterWants = After ∷ Wants ∷ []
kinds_of by.WantsAfterTriggeredBy = Wants ∷ After ∷ TriggeredBy ∷ []
kinds_of by.BeforeTriggers = Before ∷ Triggers ∷ []
kinds_of by.AfterBindsTo = After ∷ BindsTo ∷ []
kinds_of by.BeforeWants = Before ∷ Wants ∷ []
kinds_of by.BeforeConflicts = Before ∷ Conflicts ∷ []

-- What is implied whatever a unit says.
abbrev pub implied_table : List (Role × Ways × Source)
implied_table =
    (role.InSlice, by.RequiresAfterInSlice, source.Slice) ∷
    (role.KeepingProcess, by.After, source.RemountFs) ∷
    (role.PrivateProcess, by.AfterWants, source.TmpMount) ∷
    (role.PrivateProcess, by.After, source.TmpfilesSetup) ∷
    (role.ImageProcess, by.After, source.Udevd) ∷
    (role.SeparateProcess, by.RequiresAfter, source.OwnJournal) ∷
    (role.LoggingProcess, by.After, source.JournaldSocket) ∷
    (role.Service, by.WantsAfterTriggeredBy, source.SetSockets) ∷
    (role.BusService, by.RequiresAfter, source.DbusSocket) ∷
    (role.LastingSocket, by.BeforeTriggers, source.ServedService) ∷
    (role.Socket, by.AfterBindsTo, source.Interface) ∷
    (role.Activator, by.BeforeTriggers, source.Activated) ∷
    (role.Automount, by.BeforeTriggers, source.SisterMount) ∷
    (role.OnDevice, by.After, source.Device) ∷
    (role.NeedingDevice, by.Requires, source.Device) ∷
    (role.BoundToDevice, by.BindsTo, source.Device) ∷
    (role.OnDevice, by.After, source.BlockDevice) ∷
    (role.QuotaMount, by.BeforeWants, source.QuotaCheck) ∷
    (role.QuotaMount, by.BeforeWants, source.QuotaOn) ∷
    (role.FileSwap, by.After, source.RemountFs) ∷ []

-- What is implied where default dependencies are asked for.
abbrev pub default_table : List (Role × Ways × Source)
default_table =
    (role.Late, by.RequiresAfter, source.Sysinit) ∷
    (role.Stopped, by.BeforeConflicts, source.Shutdown) ∷
    (role.Service, by.After, source.Basic) ∷
    (role.Socket, by.Before, source.SocketsTarget) ∷
    (role.Path, by.Before, source.PathsTarget) ∷
    (role.Timer, by.Before, source.TimersTarget) ∷
    (role.CalendarTimer, by.After, source.TimeSync) ∷
    (role.CalendarTimer, by.After, source.TimeSet) ∷
    (role.LocalMount, by.After, source.LocalFsPre) ∷
    (role.FirmLocalMount, by.Before, source.LocalFs) ∷
    (role.NetworkMount, by.After, source.RemoteFsPre) ∷
    (role.NetworkMount, by.After, source.Network) ∷
    (role.NetworkMount, by.AfterWants, source.NetworkOnline) ∷
    (role.FirmNetworkMount, by.Before, source.RemoteFs) ∷
    (role.MemoryMount, by.After, source.SwapTarget) ∷
    (role.Automount, by.After, source.LocalFsPre) ∷
    (role.Automount, by.Before, source.LocalFs) ∷
    (role.Swap, by.Before, source.SwapTarget) ∷
    (role.Unmounted, by.BeforeConflicts, source.Umount) ∷ []
