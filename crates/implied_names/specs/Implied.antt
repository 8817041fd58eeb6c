-- What a unit implies by its name and its values: names by kinds, whether it has default dependencies, and the mounts that it
-- comes after.
-- Source: systemd.unit(5), "Implicit Dependencies", "Default Dependencies", "RequiresMountsFor="; systemd.exec(5).
use Rattle.std.proofs.Common.{if◌then◌else◌, ◌&&◌, ◌++◌, ◌==◌, ◌∷◌}
use Rattle.implied_names.specs.Prelude.{[], Automount, before_first, Bool, codes, DepKind, drop, filter_map, flat_map, in_byte_order, is_empty, Kind, kind, List, map, Mount, Name, nat_eq, None, not, Option, option_and_then, Path, Socket, Some, starts_with, Swap, Text, Timer, ℕ}
use Rattle.unit_values.specs.{Defaults.{has_defaults}, Facts.{Facts, last, values_of, words, words_in, yes}}
use Rattle.implied_names.specs.{declared.{roles.Role.{Role}, sources.Source.{Source}, tables.Ways.{Ways}}, Paths.{above, is_at_or_below, mounts_on, path_of, place}, Roles.{has_role, is_bind, is_network, is_private, is_process, takes, what}, Sources.{names_from}, Tables.{default_table, implied_table, kinds_of}}

-- ---- names

-- a name by each of some kinds
abbrev pub by_kinds : List DepKind → Name → List (DepKind × Name)
by_kinds kinds name = map (λ kind. (kind, name)) kinds

-- what an entry of a table gives a unit
abbrev pub given_by : Facts → Role × Ways × Source → List (DepKind × Name)
given_by f entry = if has_role f entry.0 then flat_map (by_kinds (kinds_of entry.1)) (names_from f entry.2) else []

abbrev pub default_names : Facts → List (DepKind × Name)
default_names f = if has_defaults f then flat_map (given_by f) default_table else []

-- The names that a unit implies, each by a kind.
unfoldable pub implied_names : Facts → List (DepKind × Name)
implied_names f = flat_map (given_by f) implied_table ++ default_names f

-- ---- paths

-- the paths that texts write
abbrev pub paths_in : List Text → List Text
paths_in texts = filter_map path_of texts

abbrev pub option_list : {X : Type 0} → Option X → List X
option_list None = []
option_list (Some x) = x ∷ []

abbrev pub said_path : Option Text → List Text
said_path text = paths_in (option_list text)

-- where a process works
abbrev pub working_paths : Facts → List Text
working_paths f = said_path (last f (codes "WorkingDirectory")) ++ said_path (last f (codes "RootDirectory")) ++ said_path (last f (codes "RootImage"))

abbrev pub private_paths : Facts → List Text
private_paths f = if is_private f then codes "/var/tmp" ∷ [] else []

abbrev pub is_colon : ℕ → Bool
is_colon b = b == 58

abbrev pub unless_private : Text → Text → Option Text
unless_private top path = if is_at_or_below path (top ++ codes "/private") then None else Some path

-- A directory that the manager makes for a word, below one of its own. What follows a colon is no part of it. One that is
-- named from the root, or among those of dynamic users, is passed over.
abbrev pub directory_in : Text → Text → Option Text
directory_in top word = if starts_with nat_eq word (codes "/") then None else option_and_then (unless_private top) (path_of (top ++ 47 ∷ before_first is_colon word))

abbrev pub directories : Facts → Text → Text → List Text
directories f key top = filter_map (directory_in top) (words f key)

abbrev pub own_directories : Facts → List Text
own_directories f =
    directories f (codes "RuntimeDirectory") (codes "/run") ++ directories f (codes "StateDirectory") (codes "/var/lib")
    ++ directories f (codes "CacheDirectory") (codes "/var/cache") ++ directories f (codes "LogsDirectory") (codes "/var/log")
    ++ directories f (codes "ConfigurationDirectory") (codes "/etc")

abbrev pub process_paths : Facts → List Text
process_paths f = if is_process f then working_paths f ++ private_paths f ++ own_directories f else []

-- /var/run is another name of /run
abbrev pub as_run : Text → Text
as_run path = if is_at_or_below path (codes "/var/run") then drop 4 path else path

abbrev pub runs : Facts → Text → List Text
runs f key = map as_run (paths_in (values_of f key))

-- where a socket listens
abbrev pub socket_paths : Facts → List Text
socket_paths f =
    runs f (codes "ListenStream") ++ runs f (codes "ListenDatagram") ++ runs f (codes "ListenSequentialPacket") ++ runs f (codes "ListenFIFO")
    ++ paths_in (values_of f (codes "ListenSpecial")) ++ paths_in (values_of f (codes "ListenUSBFunction"))

-- what a path unit watches
abbrev pub watched_paths : Facts → List Text
watched_paths f =
    paths_in (values_of f (codes "PathExists")) ++ paths_in (values_of f (codes "PathExistsGlob")) ++ paths_in (values_of f (codes "PathChanged"))
    ++ paths_in (values_of f (codes "PathModified")) ++ paths_in (values_of f (codes "DirectoryNotEmpty"))

-- where a timer keeps its times
abbrev pub timer_paths : Facts → List Text
timer_paths f = if yes f (codes "Persistent") then codes "/var/lib/systemd/timers" ∷ [] else []

-- the folder above a place, which isn't the root
abbrev pub folder_above : Option Text → List Text
folder_above None = []
folder_above (Some path) = if is_empty path then [] else above path ∷ []

-- what is mounted, unless it comes over the network
abbrev pub mounted_paths : Facts → List Text
mounted_paths f = if is_network f && not (is_bind f) && not (takes f (codes "loop")) then [] else option_list (what f)

-- the paths that units of a type have
abbrev pub type_paths : Option Kind → Facts → List Text
type_paths (Some Socket) f = socket_paths f
type_paths (Some Path) f = watched_paths f
type_paths (Some Timer) f = timer_paths f
type_paths (Some Mount) f = folder_above (place f.unit) ++ mounted_paths f
type_paths (Some Automount) f = folder_above (place f.unit)
type_paths (Some Swap) f = option_list (what f)
type_paths other f = []

-- those that a unit is said to need
abbrev pub required_paths : Facts → List Text
required_paths f = paths_in (words_in f.rows (codes "Unit") (codes "RequiresMountsFor"))

-- The paths that a unit needs.
unfoldable pub paths_of : Facts → List Text
paths_of f = required_paths f ++ process_paths f ++ type_paths (kind f.unit) f

-- The mounts that a unit comes after where there are such units: those of its paths, and of all above them.
unfoldable pub mounts_of : Facts → List Name
mounts_of f = in_byte_order (flat_map mounts_on (paths_of f))
