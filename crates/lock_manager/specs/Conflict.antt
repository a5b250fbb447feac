-- Whether two lock sets conflict, as a test.
use Rattle.std.specs.Prelude.{List, ◌++◌, Bool, ◌&&◌, ◌||◌, map}
use Rattle.std.specs.List.{list_any, range_with_len}
use Rattle.mate_num.specs.declared.bounds.TheConstants.{BUFFERS_MAX, DEVICES_MAX, SHARED_MAX}
use Rattle.mate_num.specs.declared.resource.Resource.{Resource}
use Rattle.mate_num.specs.declared.resource.Resource.TheVariants.{Shared, Buffer, Device}
use Rattle.mate_num.specs.declared.lock_set.LockSet.{LockSet}
use Rattle.mate_num.specs.Uses.{Uses, uses}
use Rattle.mate_num.specs.Locks.{lock_uses}

-- what a machine can have: shared variables, buffers and devices, as many as there are at most
abbrev pub resources : List Resource
resources =
    map (λ v. Shared record { 0 = v }) (range_with_len 0 SHARED_MAX)
    ++ map (λ b. Buffer record { 0 = b }) (range_with_len 0 BUFFERS_MAX)
    ++ map (λ d. Device record { 0 = d }) (range_with_len 0 DEVICES_MAX)

-- one of the two writes r, and the other reads or writes it
abbrev pub conflicts_at : Uses → Uses → Resource → Bool
conflicts_at a b r = (a.writes r && uses b r) || (b.writes r && uses a r)

-- there is such a resource
unfoldable pub conflict : LockSet → LockSet → Bool
conflict s t = list_any (conflicts_at (lock_uses s) (lock_uses t)) resources
