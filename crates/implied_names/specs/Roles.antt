-- The roles of units. Which settings make one follows the page of each type of unit.
-- Source: systemd.exec(5), systemd.service(5), systemd.socket(5), systemd.mount(5), systemd.automount(5), systemd.swap(5),
-- systemd.timer(5), systemd.path(5), systemd.slice(5), systemd.target(5).
use Rattle.std.proofs.Common.{if◌then◌else◌, ◌&&◌, ◌==◌, ◌||◌, ◌∷◌}
use Rattle.implied_names.specs.Prelude.{[], Automount, before_first, Bool, bytes_eq, codes, drop, false, filter, Kind, kind, List, list_any, map, Mount, Name, nat_eq, None, not, Option, option_and_then, option_map, Path, Service, slice_split, Socket, Some, starts_with, Swap, Target, Text, Timer, true, unwrap_or, ℕ}
use Rattle.unit_values.specs.{BuiltIn.{is_slice}, Facts.{Facts, has, is_one_of, last, last_of, yes}}
use Rattle.implied_names.specs.{declared.roles.Role.{Role}, Paths.{is_at_or_below, is_below, path_of, place}}
use Rattle.implied_names.specs.declared.roles.Role.TheVariants as role

-- ---- types

abbrev pub is_service : Option Kind → Bool
is_service (Some Service) = true
is_service other = false

abbrev pub is_socket : Option Kind → Bool
is_socket (Some Socket) = true
is_socket other = false

abbrev pub is_mount : Option Kind → Bool
is_mount (Some Mount) = true
is_mount other = false

abbrev pub is_automount : Option Kind → Bool
is_automount (Some Automount) = true
is_automount other = false

abbrev pub is_swap : Option Kind → Bool
is_swap (Some Swap) = true
is_swap other = false

abbrev pub is_timer : Option Kind → Bool
is_timer (Some Timer) = true
is_timer other = false

abbrev pub is_path_unit : Option Kind → Bool
is_path_unit (Some Path) = true
is_path_unit other = false

abbrev pub is_target : Option Kind → Bool
is_target (Some Target) = true
is_target other = false

-- ---- processes

-- the settings of systemd.exec(5) apply: always to services, mounts and swaps, to sockets that run commands
abbrev pub runs_by : Option Kind → Facts → Bool
runs_by (Some Service) f = true
runs_by (Some Mount) f = true
runs_by (Some Swap) f = true
runs_by (Some Socket) f = has f (codes "ExecStartPre") || has f (codes "ExecStartPost") || has f (codes "ExecStopPre") || has f (codes "ExecStopPost")
runs_by other f = false

abbrev pub is_process : Facts → Bool
is_process f = runs_by (kind f.unit) f

-- it has state, cache or log directories
abbrev pub keeps : Facts → Bool
keeps f = has f (codes "StateDirectory") || has f (codes "CacheDirectory") || has f (codes "LogsDirectory")

-- it has temporary directories of its own, which a dynamic user implies
abbrev pub is_private : Facts → Bool
is_private f = yes f (codes "PrivateTmp") || yes f (codes "DynamicUser")

-- where output goes if nothing is said
abbrev pub default_output : Option Kind → Name → Text
default_output (Some Service) unit = codes "inherit"
default_output other unit = if bytes_eq unit (codes "-.mount") then codes "null" else codes "journal"

-- input comes from a terminal, a socket or a file descriptor
abbrev pub is_open_input : Option Text → Bool
is_open_input None = false
is_open_input (Some input) = is_one_of (codes "tty" ∷ codes "tty-force" ∷ codes "tty-fail" ∷ codes "socket" ∷ codes "fd" ∷ []) (Some input) || starts_with nat_eq input (codes "fd:")

-- what a service inherits is the journal, unless its input is open
abbrev pub inherits_journal : Bool → Option Text → Text → Bool
inherits_journal service input output = service && bytes_eq output (codes "inherit") && not (is_open_input input)

abbrev pub said_output : Facts → Text
said_output f = unwrap_or (last f (codes "StandardOutput")) (default_output (kind f.unit) f.unit)

abbrev pub output : Facts → Text
output f = if inherits_journal (is_service (kind f.unit)) (last f (codes "StandardInput")) (said_output f) then codes "journal" else said_output f

-- the journal or the kernel's log, alone or beside the console
abbrev pub logs : List Text
logs = codes "journal" ∷ codes "kmsg" ∷ codes "journal+console" ∷ codes "kmsg+console" ∷ codes "syslog" ∷ codes "syslog+console" ∷ []

abbrev pub is_logging : Facts → Bool
is_logging f = is_one_of logs (Some (output f)) || is_one_of logs (last f (codes "StandardError"))

-- the type of a service that takes a name on the bus; where none is said, it is this type
abbrev pub is_bus_type : Option Text → Bool
is_bus_type None = true
is_bus_type (Some type) = bytes_eq type (codes "dbus")

-- ---- mounts and swaps

abbrev pub is_comma : ℕ → Bool
is_comma b = b == 44

abbrev pub is_equals : ℕ → Bool
is_equals b = b == 61

abbrev pub options_in : Option Text → List Text
options_in None = []
options_in (Some text) = map (before_first is_equals) (slice_split is_comma text)

-- the options of a mount, each without what it is set to
abbrev pub options : Facts → List Text
options f = options_in (last f (codes "Options"))

-- one of the options is this one
abbrev pub takes : Facts → Text → Bool
takes f option = list_any (bytes_eq option) (options f)

abbrev pub said_or_place : Option Text → Name → Option Text
said_or_place (Some text) unit = path_of text
said_or_place None unit = place unit

-- the path that is mounted or swapped to; that of its name for a swap that doesn't say it
abbrev pub what_by : Option Kind → Facts → Option Text
what_by (Some Mount) f = option_and_then path_of (last f (codes "What"))
what_by (Some Swap) f = said_or_place (last f (codes "What")) f.unit
what_by other f = None

abbrev pub what : Facts → Option Text
what f = what_by (kind f.unit) f

-- what is mounted is there already
abbrev pub is_bind : Facts → Bool
is_bind f = takes f (codes "bind") || takes f (codes "rbind") || is_one_of (codes "bind" ∷ codes "rbind" ∷ []) (last f (codes "Type"))

-- mounted before the manager starts: the root, /usr, /etc, and the kernel's own trees
abbrev pub is_early : Option Text → Bool
is_early None = false
is_early (Some path) =
    is_one_of ([] ∷ codes "/usr" ∷ codes "/etc" ∷ []) (Some path) || is_at_or_below path (codes "/run/initramfs") || is_at_or_below path (codes "/proc")
    || is_at_or_below path (codes "/sys") || is_at_or_below path (codes "/dev")

abbrev pub is_extrinsic : Facts → Bool
is_extrinsic f = is_early (place f.unit) || takes f (codes "x-initrd.mount")

-- types of file systems that need the network
abbrev pub network_types : List Text
network_types =
    codes "afs" ∷ codes "ceph" ∷ codes "cifs" ∷ codes "gfs" ∷ codes "gfs2" ∷ codes "ncp" ∷ codes "ncpfs" ∷ codes "nfs" ∷ codes "nfs4" ∷ codes "ocfs2"
    ∷ codes "orangefs" ∷ codes "pvfs2" ∷ codes "smb3" ∷ codes "smbfs" ∷ codes "davfs" ∷ codes "glusterfs" ∷ codes "lustre" ∷ codes "sshfs" ∷ []

-- a type without the word of FUSE before it
abbrev pub bare_type : Text → Text
bare_type text = if starts_with nat_eq text (codes "fuse.") then drop 5 text else text

abbrev pub is_network : Facts → Bool
is_network f = takes f (codes "_netdev") || is_one_of network_types (option_map bare_type (last f (codes "Type")))

abbrev pub says_failing : Text → Bool
says_failing option = bytes_eq option (codes "nofail") || bytes_eq option (codes "fail")

-- of the options nofail and fail the last is nofail
abbrev pub may_fail : Facts → Bool
may_fail f = is_one_of (codes "nofail" ∷ []) (last_of (filter says_failing (options f)))

-- a device's path
abbrev pub is_device_path : Option Text → Bool
is_device_path None = false
is_device_path (Some path) = is_below path (codes "/dev") || is_below path (codes "/sys")

-- the mount waits for a device: not one that binds, nor the root file system
abbrev pub waits_for_device : Facts → Bool
waits_for_device f =
    is_device_path (what f) && not (is_one_of (codes "/dev/root" ∷ codes "/dev/nfs" ∷ []) (what f)) && not (is_bind f) && not (is_one_of ([] ∷ []) (place f.unit))

abbrev pub has_quota : Facts → Bool
has_quota f = takes f (codes "usrquota") || takes f (codes "grpquota") || takes f (codes "quota") || takes f (codes "usrjquota") || takes f (codes "grpjquota")

abbrev pub may_have_quota : Option Text → Bool
may_have_quota None = true
may_have_quota (Some type) =
    is_one_of (codes "ext2" ∷ codes "ext3" ∷ codes "ext4" ∷ codes "reiserfs" ∷ codes "jfs" ∷ codes "f2fs" ∷ []) (Some type)

-- ---- roles

-- a mount that the manager makes
abbrev pub is_made_mount : Facts → Bool
is_made_mount f = is_mount (kind f.unit) && not (is_extrinsic f)

-- a swap of a device
abbrev pub is_device_swap : Facts → Bool
is_device_swap f = is_swap (kind f.unit) && is_device_path (what f)

abbrev pub is_local_mount : Facts → Bool
is_local_mount f = is_made_mount f && not (is_network f)

abbrev pub is_network_mount : Facts → Bool
is_network_mount f = is_made_mount f && is_network f

-- The unit has the role.
abbrev pub has_role : Facts → Role → Bool
has_role f role.InSlice = is_service (kind f.unit) || is_socket (kind f.unit) || is_mount (kind f.unit) || is_swap (kind f.unit) || is_slice (kind f.unit)
has_role f role.Service = is_service (kind f.unit)
has_role f role.Socket = is_socket (kind f.unit)
has_role f role.Swap = is_swap (kind f.unit)
has_role f role.Automount = is_automount (kind f.unit)
has_role f role.Path = is_path_unit (kind f.unit)
has_role f role.Timer = is_timer (kind f.unit)
has_role f role.Late = is_service (kind f.unit) || is_socket (kind f.unit) || is_path_unit (kind f.unit) || is_timer (kind f.unit)
has_role f role.Stopped = is_service (kind f.unit) || is_socket (kind f.unit) || is_path_unit (kind f.unit) || is_timer (kind f.unit) || is_target (kind f.unit) || is_slice (kind f.unit)
has_role f role.KeepingProcess = is_process f && keeps f
has_role f role.PrivateProcess = is_process f && is_private f
has_role f role.ImageProcess = is_process f && has f (codes "RootImage")
has_role f role.SeparateProcess = is_process f && has f (codes "LogNamespace")
has_role f role.LoggingProcess = is_process f && not (has f (codes "LogNamespace")) && is_logging f
has_role f role.BusService = is_service (kind f.unit) && has f (codes "BusName") && is_bus_type (last f (codes "Type"))
has_role f role.LastingSocket = is_socket (kind f.unit) && not (yes f (codes "Accept"))
has_role f role.Activator = is_timer (kind f.unit) || is_path_unit (kind f.unit)
has_role f role.CalendarTimer = is_timer (kind f.unit) && has f (codes "OnCalendar")
has_role f role.OnDevice = is_mount (kind f.unit) && waits_for_device f || is_device_swap f
has_role f role.NeedingDevice = is_mount (kind f.unit) && waits_for_device f && not (takes f (codes "x-systemd.device-bound")) || is_device_swap f
has_role f role.BoundToDevice = is_mount (kind f.unit) && waits_for_device f && takes f (codes "x-systemd.device-bound")
has_role f role.FileSwap = is_swap (kind f.unit) && not (is_device_path (what f))
has_role f role.QuotaMount = is_mount (kind f.unit) && has_quota f && may_have_quota (last f (codes "Type")) && not (is_bind f)
has_role f role.LocalMount = is_local_mount f
has_role f role.NetworkMount = is_network_mount f
has_role f role.FirmLocalMount = is_local_mount f && not (may_fail f)
has_role f role.FirmNetworkMount = is_network_mount f && not (may_fail f)
has_role f role.MemoryMount = is_made_mount f && is_one_of (codes "tmpfs" ∷ []) (last f (codes "Type"))
has_role f role.Unmounted = is_made_mount f || is_automount (kind f.unit) || is_swap (kind f.unit)
