-- The lines that commands write.
-- Source: this project's own; `@` before seconds since 1970 as in systemd.time(7).
use Rattle.std.specs.Prelude.{◌++◌, ℕ, codes, flat_map, if◌then◌else◌, length, List, nat_eq}
use Rattle.std.specs.Fmt.{decimal}
use Rattle.hex.specs.Hex.{encode_lower}
use Rattle.edit_sums.specs.declared.contents.Content.{Content}
use Rattle.edit_sums.specs.declared.contents.Content.TheVariants.{File, Gone, Link}
use Rattle.edit_sums.specs.Sums.{EntryMap}
use Rattle.load_places.specs.Texts.{place_text}
use Rattle.store_bytes.specs.Bytes.{id_of}
use Rattle.edit_log.specs.declared.logs.{LogHead.{LogHead}, LogPeer.{LogPeer}}
use Rattle.durable_node.specs.declared.{histories.Logged.{Logged}, logs.LoggedAt.{LoggedAt}}

-- the identity of a store
abbrev pub id_line : EntryMap → List ℕ
id_line s = encode_lower (id_of s) ++ codes "\n"

abbrev pub content_text : Content → List ℕ
content_text Gone = codes "gone"
content_text (Link target) = codes "link " ++ target
content_text (File bytes) = codes "file " ++ decimal (length bytes)

-- the version, the time, the content
abbrev pub logged_line : Logged → List ℕ
logged_line l =
    decimal l.version.counter ++ codes "." ++ decimal l.version.writer ++ codes " @" ++ decimal l.time ++ codes " "
    ++ content_text l.content ++ codes "\n"

abbrev pub history_text : List Logged → List ℕ
history_text = flat_map logged_line

-- the place, and then the line of its history
abbrev pub log_line : LoggedAt → List ℕ
log_line l = place_text l.place ++ codes " " ++ logged_line l.logged

abbrev pub log_text : List LoggedAt → List ℕ
log_text = flat_map log_line

-- a node: its number, and its mark in hexadecimal digits
abbrev pub node_text : ℕ → List ℕ → List ℕ
node_text writer mark = decimal writer ++ codes " " ++ encode_lower mark

-- when a peer was last met, or that it was only told of
abbrev pub seen_text : ℕ → List ℕ
seen_text seen = if nat_eq seen 0 then codes "told" else codes "@" ++ decimal seen

abbrev pub peer_line : LogPeer → List ℕ
peer_line p = node_text p.writer p.mark ++ codes " " ++ seen_text p.seen ++ codes "\n"

abbrev pub here_line : LogHead → List ℕ
here_line head = node_text head.writer head.mark ++ codes " here\n"

-- the node itself, and then its peers
abbrev pub peers_text : LogHead → List LogPeer → List ℕ
peers_text head peers = here_line head ++ flat_map peer_line peers

-- how many places a take changed
abbrev pub changed_line : ℕ → List ℕ
changed_line n = codes "changed " ++ decimal n ++ codes "\n"
