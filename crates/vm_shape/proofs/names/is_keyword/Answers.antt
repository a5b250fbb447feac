-- each keyword is one of the list
use Rattle.std.proofs.Common.{refl}
use Rattle.vm_shape.proofs.names.is_keyword.Goals as goal

pub returns-in-shared : goal.returns-in-shared
returns-in-shared c = rw c.in-shared.is-shared refl

pub returns-in-shared-2 : goal.returns-in-shared-2
returns-in-shared-2 c = rw c.in-shared.is-private refl

pub returns-in-shared-3 : goal.returns-in-shared-3
returns-in-shared-3 c = rw c.in-shared.is-buffer refl

pub returns-in-shared-4 : goal.returns-in-shared-4
returns-in-shared-4 c = rw c.in-shared.is-if refl

pub returns-in-shared-5 : goal.returns-in-shared-5
returns-in-shared-5 c = rw c.in-shared.is-then refl

pub returns-in-shared-6 : goal.returns-in-shared-6
returns-in-shared-6 c = rw c.in-shared.is-else refl

pub returns-in-shared-7 : goal.returns-in-shared-7
returns-in-shared-7 c = rw c.in-shared.is-end refl

pub returns-in-shared-8 : goal.returns-in-shared-8
returns-in-shared-8 c = rw c.in-shared.is-for refl

pub returns-in-shared-9 : goal.returns-in-shared-9
returns-in-shared-9 c = rw c.in-shared.is-to refl

pub returns-in-shared-10 : goal.returns-in-shared-10
returns-in-shared-10 c = rw c.in-shared.is-step refl

pub returns-in-shared-11 : goal.returns-in-shared-11
returns-in-shared-11 c = rw c.in-shared.is-next refl

pub returns-in-shared-12 : goal.returns-in-shared-12
returns-in-shared-12 c = rw c.in-shared.is-while refl

pub returns-in-shared-13 : goal.returns-in-shared-13
returns-in-shared-13 c = rw c.in-shared.is-and refl

pub returns-in-shared-14 : goal.returns-in-shared-14
returns-in-shared-14 c = rw c.in-shared.is-or refl

pub returns-in-shared-15 : goal.returns-in-shared-15
returns-in-shared-15 c = rw c.in-shared.is-not refl

pub returns-in-shared-16 : goal.returns-in-shared-16
returns-in-shared-16 c = rw c.in-shared.is-size refl

pub returns-in-shared-17 : goal.returns-in-shared-17
returns-in-shared-17 c = rw c.in-shared.is-clear refl

pub returns-in-shared-18 : goal.returns-in-shared-18
returns-in-shared-18 c = rw c.in-shared.is-msg refl
