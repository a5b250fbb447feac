-- What a journal is read against: a machine, and what its installed programs mean.
use Rattle.std.specs.Prelude.{ℕ, ◌+◌, ◌<◌, ◌≤◌, Bool, List, ℤ, Option}
use Rattle.arrayvec.specs.ArrayVec.{ArrayVec}
use Rattle.mate_num.specs.Uses.{Uses}
use Rattle.mate_num.specs.declared.id.DeviceId.{DeviceId}
use Rattle.mate_num.specs.declared.id.FunId.{FunId}
use Rattle.mate_num.specs.declared.id.HandlerId.{HandlerId}
use Rattle.mate_num.specs.declared.id.ContextId.{ContextId}
use Rattle.mate_num.specs.declared.outcome.Outcome.{Outcome}
use Rattle.mate_num.specs.declared.store.Store.{Store}

-- a program as a node holds it: the handler it is for, its version and its image
pub record HeldProgram : Type 0 where
  pub handler : HandlerId
  pub version : ℕ
  pub image : ArrayVec ℕ

-- What programs mean: the run of one on a store, a payload, the answers to its calls and a number of turns, and the resources
-- that it may read and write. By instructions: how many its installed code executes in such a run until it next waits or
-- is over (its mark), and its store after n of them.
pub record Meaning : Type 0 where
  pub run : HeldProgram → Store → ArrayVec ℤ → List ℤ → ℕ → Outcome
  pub uses : HeldProgram → Uses
  pub mark : HeldProgram → Store → ArrayVec ℤ → List ℤ → ℕ → ℕ
  pub after : ℕ → HeldProgram → Store → ArrayVec ℤ → List ℤ → ℕ → Store

-- a machine: its store at the beginning of an era, the turns of an invocation's loops, the instructions of each turn that
-- it has in a run, the first context of each handler and how many it has, the handlers that run once at each of their
-- installs, the device that each function speaks to, if any, and what programs mean
pub record Machine : Type 0 where
  pub zero_store : Store
  pub turns : ℕ
  pub quantum : ℕ
  pub first_context : HandlerId → ℕ
  pub contexts : HandlerId → ℕ
  pub runs_once : HandlerId → Bool
  pub device_of : FunId → Option DeviceId
  pub meaning : Meaning

-- the context is one of the handler's
pub record IsContextOf (m : Machine) (h : HandlerId) (c : ContextId) : Type 0 where
  pub from : m.first_context h ≤ c.0
  pub below : c.0 < m.first_context h + m.contexts h
