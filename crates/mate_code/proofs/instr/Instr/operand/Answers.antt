use Rattle.std.proofs.Common.{◌≡◌, ◌≢◌, ℕ, ℤ, refl}
use Rattle.mate_num.specs.declared.id.BufId.{BufId}
use Rattle.mate_num.specs.declared.id.FunId.{FunId}
use Rattle.mate_num.specs.declared.id.VarId.{VarId}
use Rattle.mate_code.specs.declared.instr.Instr.{Instr}
use Rattle.mate_code.specs.declared.instr.Instr.TheVariants.{PushW, PushB, GetP, SetP, GetS, SetS, Jz, Jmp, Back, BGet, BSet, BAdd, BTake, BSize, BClear, FunBuf}
use Rattle.mate_code.specs.Kind.{kind_of, instr_of, form_of}
use Rattle.mate_code.specs.Instr.{operand_of, FitsForm}
use Rattle.mate_code.proofs.instr.Instr.operand.Goals as goal

-- an operand and what is told of it
record IsOperand (i : Instr) (n : ℕ) : Type 0 where
  value : n ≡ operand_of i
  fits : FitsForm (form_of (kind_of i)) n
  whole : instr_of (kind_of i) n ≡ i

-- an instruction that has no operand
record HasNone (i : Instr) : Type 0 where
  no_pushw : (operand : ℤ) → i ≢ PushW operand
  no_pushb : (operand : ℕ) → i ≢ PushB operand
  no_getp : (operand : ℕ) → i ≢ GetP operand
  no_setp : (operand : ℕ) → i ≢ SetP operand
  no_gets : (operand : VarId) → i ≢ GetS operand
  no_sets : (operand : VarId) → i ≢ SetS operand
  no_jz : (operand : ℕ) → i ≢ Jz operand
  no_jmp : (operand : ℕ) → i ≢ Jmp operand
  no_back : (operand : ℕ) → i ≢ Back operand
  no_bget : (operand : BufId) → i ≢ BGet operand
  no_bset : (operand : BufId) → i ≢ BSet operand
  no_badd : (operand : BufId) → i ≢ BAdd operand
  no_btake : (operand : BufId) → i ≢ BTake operand
  no_bsize : (operand : BufId) → i ≢ BSize operand
  no_bclear : (operand : BufId) → i ≢ BClear operand
  no_funbuf : (f : FunId) (buffer : BufId) → i ≢ FunBuf f buffer

absent : (i : Instr) → HasNone i → IsOperand i 0
absent (PushW operand) none = absurd (none.no_pushw operand refl)
absent (PushB operand) none = absurd (none.no_pushb operand refl)
absent (GetP operand) none = absurd (none.no_getp operand refl)
absent (SetP operand) none = absurd (none.no_setp operand refl)
absent (GetS operand) none = absurd (none.no_gets operand refl)
absent (SetS operand) none = absurd (none.no_sets operand refl)
absent (Jz operand) none = absurd (none.no_jz operand refl)
absent (Jmp operand) none = absurd (none.no_jmp operand refl)
absent (Back operand) none = absurd (none.no_back operand refl)
absent (BGet operand) none = absurd (none.no_bget operand refl)
absent (BSet operand) none = absurd (none.no_bset operand refl)
absent (BAdd operand) none = absurd (none.no_badd operand refl)
absent (BTake operand) none = absurd (none.no_btake operand refl)
absent (BSize operand) none = absurd (none.no_bsize operand refl)
absent (BClear operand) none = absurd (none.no_bclear operand refl)
absent (FunBuf f buffer) none = absurd (none.no_funbuf f buffer refl)
absent _ none = record { value = refl; fits = refl; whole = refl }

pub returns-in_default : goal.returns-in_default
returns-in_default c =
    let o = absent c.args.self record {
      no_pushw = c.in_default.not-PushW;
      no_pushb = c.in_default.not-PushB;
      no_getp = c.in_default.not-GetP;
      no_setp = c.in_default.not-SetP;
      no_gets = c.in_default.not-GetS;
      no_sets = c.in_default.not-SetS;
      no_jz = c.in_default.not-Jz;
      no_jmp = c.in_default.not-Jmp;
      no_back = c.in_default.not-Back;
      no_bget = c.in_default.not-BGet;
      no_bset = c.in_default.not-BSet;
      no_badd = c.in_default.not-BAdd;
      no_btake = c.in_default.not-BTake;
      no_bsize = c.in_default.not-BSize;
      no_bclear = c.in_default.not-BClear;
      no_funbuf = c.in_default.not-FunBuf;
    } in
    record { value = o.value; fits = o.fits; whole = o.whole }
