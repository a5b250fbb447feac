-- The installs of a node over a whole run, by the entries of its journal.
use Rattle.std.specs.Prelude.{◌≡◌, ℕ, ◌<◌, ◌≤◌, List, ◌∷◌, ◌++◌}
use Rattle.mate_journal.specs.Machine.{HeldProgram}
use Rattle.mate_journal.specs.Journal.{JournalEntry, Installed, held}
use Rattle.capsule_exchange.specs.Happenings.{held_version}
use Rattle.world_rules.specs.World.{World}
use Rattle.world_rules.specs.Effect.{Installing, event_node}
use Rattle.world_rules.specs.State.{Moment, node_at, effect_at, state}
use Rattle.world_rules.specs.Run.{IsNext, HaveCome}

-- one of the entries installs the program
pub record TellsInstall (told : List JournalEntry) (p : HeldProgram) : Type 0 where
  pub front : List JournalEntry
  pub rest : List JournalEntry
  pub split : told ≡ front ++ Installed p ∷ rest

-- an event's entries install only the program that it is of
abbrev pub InstallsItsOwn : World → Type 0
InstallsItsOwn w = (before : List Moment) (m : Moment) (p : HeldProgram) → HaveCome w (m ∷ before) → TellsInstall m.told p
    → (effect_at w (state w before) m).deed ≡ Installing p

-- one of these events has an entry that installs this version for the handler on the node
pub record WasInstalled (w : World) (ms : List Moment) (k h version : ℕ) : Type 0 where
  pub newer : List Moment
  pub moment : Moment
  pub older : List Moment
  pub split : ms ≡ newer ++ moment ∷ older
  pub node : event_node w moment.cause ≡ k
  pub program : HeldProgram
  pub handler : program.handler.0 ≡ h
  pub version_is : program.version ≡ version
  pub entry : TellsInstall moment.told program

-- what a node holds it installed
abbrev pub HeldWasInstalled : World → Type 0
HeldWasInstalled w = (k h : ℕ) (ms : List Moment) → HaveCome w ms → 1 ≤ held_version h ((state w ms).nodes k).exchange
    → WasInstalled w ms k h (held_version h ((state w ms).nodes k).exchange)

-- held versions never fall
abbrev pub HeldNeverFalls : World → Type 0
HeldNeverFalls w = (k h : ℕ) (before later : List Moment) → HaveCome w (later ++ before)
    → held_version h ((state w before).nodes k).exchange ≤ held_version h ((state w (later ++ before)).nodes k).exchange

-- of two installs on a node for one handler the later one is of the greater version
abbrev pub InstallsRise : World → Type 0
InstallsRise w = (before later : List Moment) (x y : Moment) (p q : HeldProgram) → HaveCome w (x ∷ (later ++ (y ∷ before)))
    → event_node w x.cause ≡ event_node w y.cause
    → TellsInstall y.told p → TellsInstall x.told q → p.handler.0 ≡ q.handler.0 → p.version < q.version

-- whatever event is the next one that is due, a program that it installs is newer than what its node holds: no install is refused
abbrev pub InstallsAreNewer : World → Type 0
InstallsAreNewer w = (before : List Moment) (m : Moment) (p : HeldProgram) → HaveCome w before → IsNext (state w before) m.time m.cause
    → (effect_at w (state w before) m).deed ≡ Installing p
    → held (node_at w (state w before) m).reading p.handler < p.version

-- and each event that installs a program has its Install entry
abbrev pub InstallsAreTold : World → Type 0
InstallsAreTold w = (before : List Moment) (m : Moment) (p : HeldProgram) → HaveCome w (m ∷ before)
    → (effect_at w (state w before) m).deed ≡ Installing p → TellsInstall m.told p
