-- Which units a unit names, where its name and its values say it.
-- Source: systemd.slice(5), systemd.resource-control(5), systemd.service(5), systemd.socket(5), systemd.timer(5),
-- systemd.path(5), systemd.automount(5), systemd.mount(5), systemd.swap(5); systemd.special(7) for the fixed names.
use Rattle.std.proofs.Common.{if◌then◌else◌, ◌&&◌, ◌++◌, ◌∷◌}
use Rattle.implied_names.specs.Prelude.{[], before_last, Bool, bytes_eq, codes, drop, ends_with, escape, false, filter, filter_map, Instance, kind, List, list_any, Name, nat_eq, None, Option, Plain, prefix, Service, shape, Shape, Slice, Some, stem, Template, Text, true, word}
use Rattle.implied_names.specs.{declared.sources.Source.{Source}, Paths.{is_below, path_of, unit_at}, Roles.{is_extrinsic, is_mount, what}}
use Rattle.unit_values.specs.{BuiltIn.{is_dash, is_perpetual, is_slice}, Facts.{Facts, last, last_of, values_of, words}, Named.{first, named, names_unit, or_sister, other_named, sister}}
use Rattle.implied_names.specs.declared.sources.Source.TheVariants as source

-- ---- slices

abbrev pub is_instance : Shape → Bool
is_instance Plain = false
is_instance Template = false
is_instance Instance = true

-- the slice that a slice is in, which its name begins with
abbrev pub outer_slice : Name → List Text
outer_slice unit =
    if bytes_eq unit (codes "-.slice") then []
    else if list_any is_dash (stem unit) then (before_last is_dash (stem unit) ++ codes ".slice") ∷ []
    else codes "-.slice" ∷ []

-- the slice of a unit for which none is set: one for all instances of a template; the root slice for what is there from the
-- beginning
abbrev pub default_slice : Facts → Text
default_slice f =
    if is_instance (shape f.unit) then codes "system-" ++ escape (prefix f.unit) ++ codes ".slice"
    else if is_perpetual f.unit then codes "-.slice"
    else if is_mount (kind f.unit) && is_extrinsic f then codes "-.slice"
    else codes "system.slice"

abbrev pub set_slice : Option Text → Facts → Text
set_slice (Some text) f = text
set_slice None f = default_slice f

abbrev pub slice_of : Facts → List Text
slice_of f = if is_slice (kind f.unit) then outer_slice f.unit else set_slice (last_of (filter (names_unit Slice) (values_of f (codes "Slice")))) f ∷ []

-- ---- sockets, services, timers and paths

abbrev pub own_journal : Option Text → List Text
own_journal None = []
own_journal (Some name) = (codes "systemd-journald@" ++ name ++ codes ".socket") ∷ (codes "systemd-journald-varlink@" ++ name ++ codes ".socket") ∷ []

abbrev pub is_socket_word : Text → Bool
is_socket_word word = ends_with nat_eq word (codes ".socket")

-- the service that a socket starts: the last that is set, else its sister
abbrev pub served_service : Facts → Text
served_service f = or_sister (codes "service") f.unit (last_of (filter (names_unit Service) (values_of f (codes "Service"))))

-- the unit that a timer or a path starts: the first that is set and isn't itself, else its sister among services
abbrev pub activated : Facts → Text
activated f = or_sister (codes "service") f.unit (first (filter_map (other_named f.unit) (values_of f (codes "Unit"))))

-- ---- devices

abbrev pub devices : Option Text → List Text
devices None = []
devices (Some path) = unit_at (codes "device") path ∷ []

-- the path of a network interface; the loopback interface waits for none
abbrev pub interface_path : Text → Option Text
interface_path name = if bytes_eq name (codes "lo") then None else path_of (codes "/sys/subsystem/net/devices/" ++ name)

abbrev pub interfaces : Option Text → List Text
interfaces None = []
interfaces (Some name) = devices (interface_path name)

abbrev pub block_devices : Option Text → List Text
block_devices None = []
block_devices (Some path) = if is_below path (codes "/dev") then (codes "blockdev@" ++ escape (drop 1 path) ++ codes ".target") ∷ [] else []

-- ---- all

-- the fixed name that a source gives
abbrev pub fixed_name : Source → Option Text
fixed_name source.Sysinit = Some (codes "sysinit.target")
fixed_name source.Basic = Some (codes "basic.target")
fixed_name source.Shutdown = Some (codes "shutdown.target")
fixed_name source.SocketsTarget = Some (codes "sockets.target")
fixed_name source.PathsTarget = Some (codes "paths.target")
fixed_name source.TimersTarget = Some (codes "timers.target")
fixed_name source.TimeSync = Some (codes "time-sync.target")
fixed_name source.TimeSet = Some (codes "time-set.target")
fixed_name source.LocalFs = Some (codes "local-fs.target")
fixed_name source.LocalFsPre = Some (codes "local-fs-pre.target")
fixed_name source.RemoteFs = Some (codes "remote-fs.target")
fixed_name source.RemoteFsPre = Some (codes "remote-fs-pre.target")
fixed_name source.Network = Some (codes "network.target")
fixed_name source.NetworkOnline = Some (codes "network-online.target")
fixed_name source.SwapTarget = Some (codes "swap.target")
fixed_name source.Umount = Some (codes "umount.target")
fixed_name source.RemountFs = Some (codes "systemd-remount-fs.service")
fixed_name source.TmpMount = Some (codes "tmp.mount")
fixed_name source.TmpfilesSetup = Some (codes "systemd-tmpfiles-setup.service")
fixed_name source.Udevd = Some (codes "systemd-udevd.service")
fixed_name source.JournaldSocket = Some (codes "systemd-journald.socket")
fixed_name source.DbusSocket = Some (codes "dbus.socket")
fixed_name source.QuotaCheck = Some (codes "systemd-quotacheck.service")
fixed_name source.QuotaOn = Some (codes "quotaon.service")
fixed_name other = None

-- what a source gives that depends on the unit
abbrev pub found_by : Facts → Source → List Text
found_by f source.Slice = slice_of f
found_by f source.OwnJournal = own_journal (last f (codes "LogNamespace"))
found_by f source.SetSockets = filter is_socket_word (words f (codes "Sockets"))
found_by f source.ServedService = served_service f ∷ []
found_by f source.Activated = activated f ∷ []
found_by f source.SisterMount = sister (codes "mount") f.unit ∷ []
found_by f source.Interface = interfaces (last f (codes "BindToDevice"))
found_by f source.Device = devices (what f)
found_by f source.BlockDevice = block_devices (what f)
found_by f other = []

abbrev pub fixed_or : List Text → Option Text → List Text
fixed_or found None = found
fixed_or found (Some text) = text ∷ []

-- The texts that a source gives.
abbrev pub texts_from : Facts → Source → List Text
texts_from f source = fixed_or (found_by f source) (fixed_name source)

-- The units that a source gives: what is no unit name gives nothing.
abbrev pub names_from : Facts → Source → List Name
names_from f source = filter_map (named f.unit) (texts_from f source)
