-- A log of which nothing is gone is the part that is kept; and where all is gone, nothing is kept.
use Rattle.std.proofs.Common.{◌≡◌, ℕ, List, [], ◌∷◌, ◌++◌, refl, sym, ◌∙◌, ap, arith, ◌+◌, length, map, length-append, append-nil}
use Rattle.arrayvec.specs.ArrayVec.{ArrayVec}
use Rattle.mate_num.specs.declared.store.Store.{Store}
use Rattle.mate_journal.specs.Log.{Log, IsEmpty}
use Rattle.mate_journal.specs.declared.entry.Entry.{Entry}
use Rattle.mate_journal.specs.declared.entry.Entry.TheVariants as entry
use Rattle.mate_journal.specs.declared.entry.Stamped.{Stamped}
use Rattle.mate_journal.specs.OpenLog.{Gone, nothing_gone, gone_of, entry_behind, stamped_behind, joined}

none-long : {A : Type 0} (xs : List A) → length xs ≡ 0 → xs ≡ []
none-long [] e = refl
none-long (x ∷ xs) e = cc

entry-behind_none : (e : Entry) → entry_behind 0 0 e ≡ e
entry-behind_none (entry.Install h version image) = let e : 0 + image ≡ image = omega arith in ap (λ (k : ℕ). entry.Install h version k) e
entry-behind_none (entry.Seen store) = let e : 0 + store ≡ store = omega arith in ap entry.Seen e
entry-behind_none _ = refl

behind-none : (es : List Stamped) → map (stamped_behind 0 0) es ≡ es
behind-none [] = refl
behind-none (s ∷ es) =
    ap (λ (e : Entry). let x : Stamped = record { stamp = s.stamp; entry = e } in x ∷ map (stamped_behind 0 0) es) (entry-behind_none s.entry) ∙ ap (λ (xs : List Stamped). s ∷ xs) (behind-none es)

pub kept-all : (past kept : Log) → gone_of past ≡ nothing_gone → kept ≡ joined past kept
kept-all past kept none =
    let entries : past.entries ≡ [] = none-long past.entries (ap (λ (g : Gone). g.entries) none) in
    let images : past.images ≡ [] = none-long past.images (ap (λ (g : Gone). g.images) none) in
    let stores : past.stores ≡ [] = none-long past.stores (ap (λ (g : Gone). g.stores) none) in
    let J : List Stamped → List (ArrayVec ℕ) → List Store → Log = λ es is ss. joined (record { entries = es; images = is; stores = ss; spare = past.spare }) kept in
    let empty : joined past kept ≡ J [] [] [] =
    ap (λ es. J es past.images past.stores) entries ∙ ap (λ is. J [] is past.stores) images ∙ ap (λ ss. J [] [] ss) stores in
    sym (empty ∙ ap (λ (es : List Stamped). let l : Log = record { entries = es; images = kept.images; stores = kept.stores; spare = kept.spare } in l) (behind-none kept.entries))

-- ---- where all is gone

more-none : {A : Type 0} (xs ys : List A) → length xs ≡ length (xs ++ ys) → ys ≡ []
more-none xs ys same = none-long ys (let long = length-append xs ys in omega (arith, long, same))

mapped-none : {A : Type 0} {B : Type 0} (f : A → B) (xs : List A) → map f xs ≡ [] → xs ≡ []
mapped-none f [] e = refl
mapped-none f (x ∷ xs) e = cc

pub kept-none : (past kept : Log) → gone_of past ≡ gone_of (joined past kept) → IsEmpty kept
kept-none past kept all =
    let behind : Stamped → Stamped = stamped_behind (length past.images) (length past.stores) in record {
      entries = mapped-none behind kept.entries (more-none past.entries (map behind kept.entries) (ap (λ (g : Gone). g.entries) all));
      images = more-none past.images kept.images (ap (λ (g : Gone). g.images) all);
      stores = more-none past.stores kept.stores (ap (λ (g : Gone). g.stores) all);
    }

joined-none : (past kept : Log) → IsEmpty kept → joined past kept ≡ record past { spare = kept.spare }
joined-none past kept none =
    let J : List Stamped → List (ArrayVec ℕ) → List Store → Log = λ es is ss. joined past (record { entries = es; images = is; stores = ss; spare = kept.spare }) in
    let L : List Stamped → List (ArrayVec ℕ) → List Store → Log = λ es is ss. record { entries = es; images = is; stores = ss; spare = kept.spare } in
    ap (λ es. J es kept.images kept.stores) none.entries
    ∙ ap (λ is. J [] is kept.stores) none.images
    ∙ ap (λ ss. J [] [] ss) none.stores
    ∙ ap (λ es. L es (past.images ++ []) (past.stores ++ [])) (append-nil past.entries)
    ∙ ap (λ is. L past.entries is (past.stores ++ [])) (append-nil past.images)
    ∙ ap (λ ss. L past.entries past.images ss) (append-nil past.stores)

-- what is kept may then be any empty log
pub joined-traded : (past kept room : Log) → IsEmpty kept → IsEmpty room → joined past room ≡ record (joined past kept) { spare = room.spare }
joined-traded past kept room none empty =
    joined-none past room empty ∙ sym (ap (λ (l : Log). let m : Log = record l { spare = room.spare } in m) (joined-none past kept none))
