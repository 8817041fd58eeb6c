use Rattle.std.proofs.Common.{◌≡◌}
use Rattle.inverse_deps.proofs.Prelude.{[], AreMade, AreRowsBy, AreWithin, Dependency, get_or, HasAdded, IfOk-weaker, IsDependent, IsFollowing, IsGiven, IsMayList, length, List, Manager, Name, NameLoad, subst, sym, ℕ}
use Rattle.inverse_deps.proofs.{Linking.{rows_within}, Pulling.{following_named, may_adjacency, may_ascending}}
use Rattle.inverse_deps.proofs.following.with_following.Goals as goal

-- the lists of the names of a load
may_of_load : (names names' : List (Name × NameLoad)) → names ≡ names' → (before may : List (List ℕ)) (given : List (List Dependency)) → AreMade (IsMayList names before given) (length given) may
    → AreMade (IsMayList names' before given) (length given) may
may_of_load names names' e before may given made = subst (λ (ns : List (Name × NameLoad)). AreMade (IsMayList ns before given) (length given) may) e made

pub before_of-requires : goal.before_of-requires
before_of-requires c =
    let load = c.args.loaded.now in
    let given : List (List Dependency) = c.args.given.now in
    record { within = subst (λ (n : ℕ). AreWithin n given) (sym c.requires.given.one_each) (rows_within load (IsGiven Manager load.names) given c.requires.given) }

pub may_follow-requires-clause-within : goal.may_follow-requires-clause-within
may_follow-requires-clause-within c =
    let load = c.args.loaded.now in
    let given : List (List Dependency) = c.args.given.now in
    subst (λ (ns : List (Name × NameLoad)). AreWithin (length ns) given) (sym c.names.ensures.names) (rows_within load (IsGiven Manager load.names) given c.requires.given)

pub followed_rows-requires-clause-may : goal.followed_rows-requires-clause-may
followed_rows-requires-clause-may c =
    may_adjacency c.args.loaded.now c.args.given.now c.requires.given c.in_ok-before.before c.in_ok-may.may c.in_ok-before.ensures.before
    (may_of_load c.names.result.now c.args.loaded.now.names c.names.ensures.names c.in_ok-before.before c.in_ok-may.may c.args.given.now c.in_ok-may.ensures.may)

pub followed_rows-requires-clause-ascending : goal.followed_rows-requires-clause-ascending
followed_rows-requires-clause-ascending c =
    may_ascending c.args.loaded.now c.args.given.now c.requires.given c.in_ok-before.before c.in_ok-may.may c.in_ok-before.ensures.before
    (may_of_load c.names.result.now c.args.loaded.now.names c.names.ensures.names c.in_ok-before.before c.in_ok-may.may c.args.given.now c.in_ok-may.ensures.may)

pub returns : goal.returns
returns c =
    let load = c.args.loaded.now in
    let given : List (List Dependency) = c.args.given.now in
    let may : List (List ℕ) = c.in_ok-may.may in
    record {
      rows = IfOk-weaker c.followed_rows.result (λ rows. AreMade (λ index row. HasAdded (get_or given index []) (IsFollowing may index) row) (length given) rows.items)
          (λ rows. AreRowsBy load (IsDependent Manager load.names) rows.items)
          (λ rows made. following_named load given c.requires.given c.in_ok-before.before may c.in_ok-before.ensures.before
          (may_of_load c.names.result.now load.names c.names.ensures.names c.in_ok-before.before may given c.in_ok-may.ensures.may) rows.items made)
          c.followed_rows.ensures.rows;
    }
