-- What the words ask for.
-- Source: this project's own.
use Rattle.std.specs.Prelude.{◌≡◌, ℕ, Bool, codes, false, List, option_map, Some, true}
use Rattle.std.specs.Str.Parse.{digits_value, without_leading_plus}
use Rattle.clap.specs.Words.{first_value, one_text}
use Rattle.clap.specs.declared.parser.matches.Found.{Found}
use Rattle.fleet_node.specs.declared.requests.{Asked.{Asked}, FileRequest.{FileRequest}}
use Rattle.fleet_node.specs.declared.requests.Asked.TheVariants.{Content, Delta, Digest, Exchange, History, Id, Log, Peers, Run, Store, Take, Tree}
use Rattle.fleet_node.specs.declared.requests.FileRequest.TheVariants.{Compact, Init, Over}

-- the first value of FILE
abbrev pub HasFile : Found → List ℕ → Type 0
HasFile words file = first_value words (codes "FILE") ≡ Some file

-- whether the words say that the node begins
abbrev pub IsCall : Found → Bool → Type 0
IsCall words calls =
    (one_text words (codes "call") ≡ Some (codes "true") → calls ≡ true) × (one_text words (codes "call") ≡ Some (codes "false") → calls ≡ false)

-- the number that the word of this name writes
abbrev pub IsNumber : Found → List ℕ → ℕ → Type 0
IsNumber words name n = (text : List ℕ) → one_text words name ≡ Some text → n ≡ digits_value 10 (without_leading_plus text)

-- this subcommand with these words asks for this over an open file
abbrev pub AsksOver : List ℕ → Found → Asked → Type 0
AsksOver name words Run = name ≡ codes "run"
AsksOver name words Digest = name ≡ codes "digest"
AsksOver name words Store = name ≡ codes "store"
AsksOver name words Id = name ≡ codes "id"
AsksOver name words Delta = name ≡ codes "delta"
AsksOver name words Take = name ≡ codes "take"
AsksOver name words (Exchange calls) = (name ≡ codes "exchange") × IsCall words calls
AsksOver name words (History place) = (name ≡ codes "history") × (first_value words (codes "PLACE") ≡ Some place.now)
AsksOver name words Log = name ≡ codes "log"
AsksOver name words Peers = name ≡ codes "peers"
AsksOver name words (Content place counter writer) =
    (name ≡ codes "content") × (first_value words (codes "PLACE") ≡ Some place.now) × IsNumber words (codes "COUNTER") counter × IsNumber words (codes "WRITER") writer
AsksOver name words (Tree folder host) =
    (name ≡ codes "tree") × (first_value words (codes "DIR") ≡ Some folder.now) × (first_value words (codes "host") ≡ option_map (λ h. h.now) host)

-- this subcommand with these words asks for this
abbrev pub Asks : List ℕ → Found → FileRequest → Type 0
Asks name words (Init file writer) = (name ≡ codes "init") × HasFile words file.now
Asks name words (Compact file) = (name ≡ codes "compact") × HasFile words file.now
Asks name words (Over file asked) = HasFile words file.now × AsksOver name words asked
