-- What the programs of a right world are.
use Rattle.std.proofs.Common.{◌≡◌, ◌≢◌, ◌<◌, ℕ, zero, suc, ◌^◌, ◌/◌, ◌%◌, List, [], ◌∷◌, ◌++◌, map, length, refl, sym, ◌∙◌, ap, subst, arith}
use Rattle.std.specs.Prelude.{Option, Some, None, Result, Ok, Err, slice_get, All, IsOk, IsSomeAnd, Bool, true, false, nat_le, if◌then◌else◌}
use Rattle.std.specs.Int.{w16, w32, to_be_bytes, byte_at, bytes_high_first}
use Rattle.mate_num.specs.declared.bounds.TheConstants.{SHORT_CODE}
use Rattle.std.proofs.lemmas.List.Elements.{All-head, All-tail}
use Rattle.mate_num.specs.declared.id.HandlerId.{HandlerId}
use Rattle.vm_shape.specs.declared.description.Description.{Description}
use Rattle.vm_shape.specs.Shapes.{shape_of}
use Rattle.mate_code.specs.BytesVerification.{bytes_verification}
use Rattle.mate_code.specs.Run.{Code}
use Rattle.mate_code.specs.declared.fault.VerifyFault.{VerifyFault}
use Rattle.mate_code.specs.Verification.{Marks}
use Rattle.mate_journal.specs.Machine.{HeldProgram}
use Rattle.mate_journal.specs.declared.program.Program.{Program}
use Rattle.node_state.specs.Meaning.{meaning_of}
use Rattle.node_calls.specs.Installing.{IsRightCapsule, program_by}
use Rattle.node_programs.specs.Right.{IsRightProgram, AreRightPrograms}
use Rattle.node_programs.specs.Sources.{held_as}
use Rattle.node_programs.specs.ScriptSteps.{held_or_none, program_at}
use Rattle.capsule_codec.specs.Image.{IsBytes, CapsuleParts, IsCapsule, magic, format_of, capsule_image}
use Rattle.capsule_codec.specs.Reading.{capsule_in}
use Rattle.capsule_codec.proofs.ImageLemmas.{capsule_again}
use Rattle.script_steps.specs.declared.world.World.{World as Script}
use Rattle.script_steps.specs.declared.world.Planned.{Planned}
use Rattle.script_steps.specs.declared.world.What.{What}
use Rattle.script_steps.specs.declared.world.What.TheVariants as what
use Rattle.world_rules.specs.World.{PlannedLine, Inject, want_of, line_planned}
use Rattle.mate_num.proofs.ListLemmas.{all-at}
use Rattle.world_laws.specs.Versions.{InjectsAt}
use Rattle.world_laws.specs.Premises.{IsInjectedProgram, IsRightScript}
use Rattle.world_laws.proofs.Premises.{injected_are_versions}
use Rattle.world_run_laws.specs.Coming.{code_world}
use Rattle.node_programs.specs.WorldPrograms.{IsProgramOfWhat, AreProgramsOfWorld}
use Rattle.world_run_laws.proofs.Heard.{AreProgramsFit}

-- ---- the programs of lines

-- a line's program is a right one
pub record HasProgram (d : Description) (p : HeldProgram) : Type 0 where
  pub program : Program
  pub right : IsRightProgram d program
  pub is : held_as program ≡ p

wanted : (d : Description) (ps : List Program) (x : What) (p : HeldProgram) → AreRightPrograms d ps → IsProgramOfWhat ps x → want_of (program_at ps) x ≡ Inject p → HasProgram d p
wanted d ps (what.Inject program handler version) p right of is =
    let same : program_at ps program ≡ p = cc in
    subst (HasProgram d) same (found (slice_get ps program) refl of) where
      found : (o : Option Program) → slice_get ps program ≡ o → IsSomeAnd o (λ (q : Program). (q.handler ≡ handler) × (q.version ≡ version)) → HasProgram d (held_or_none o)
      found None is_at none = absurd none
      found (Some q) is_at some = record { program = q; right = all-at (IsRightProgram d) ps program q right is_at; is = refl }
wanted d ps _ p right of is = cc

planned : (d : Description) (ps : List Program) (es : List Planned) (i : ℕ) (l : PlannedLine) (p : HeldProgram) → AreRightPrograms d ps → All (λ (e : Planned). IsProgramOfWhat ps e.what) es
    → slice_get (map (line_planned (program_at ps)) es) i ≡ Some l → l.what ≡ Inject p → HasProgram d p
planned d ps [] i l p right all stands is = let clash : None ≡ Some l = stands in cc
planned d ps (e ∷ es) zero l p right all stands is =
    let same : line_planned (program_at ps) e ≡ l = cc in
    wanted d ps e.what p right (All-head (λ (x : Planned). IsProgramOfWhat ps x.what) e es all) (ap (λ (x : PlannedLine). x.what) same ∙ is)
planned d ps (e ∷ es) (suc i) l p right all stands is = planned d ps es i l p right (All-tail (λ (x : Planned). IsProgramOfWhat ps x.what) e es all) stands is

pub line-program : (d : Description) (script : Script) (ps : List Program) (i : ℕ) (p : HeldProgram) → AreProgramsOfWorld d script ps → InjectsAt (code_world d script ps) i p → HasProgram d p
line-program d script ps i p right injects = planned d ps script.events i injects.0 p right.programs right.each injects.1 injects.2

-- ---- the script is right with them

injected-program : (d : Description) (ps : List Program) (program version : ℕ) (handler : HandlerId) → AreRightPrograms d ps → IsProgramOfWhat ps (what.Inject program handler version)
    → IsInjectedProgram handler version (program_at ps program)
injected-program d ps program version handler right of = found (slice_get ps program) refl of where
  found : (o : Option Program) → slice_get ps program ≡ o → IsSomeAnd o (λ (q : Program). (q.handler ≡ handler) × (q.version ≡ version)) → IsInjectedProgram handler version (held_or_none o)
  found None is_at none = absurd none
  found (Some q) is_at some =
      let own = all-at (IsRightProgram d) ps program q right is_at in
      record { handler_is = some.0; version_is = some.1; capsule = own.capsule; is_capsule = own.is_capsule; image_is = own.image }

pub right-script : (d : Description) (script : Script) (ps : List Program) → AreProgramsOfWorld d script ps → IsRightScript d script (program_at ps)
right-script d script ps right = record {
  right = right.world;
  programs_are = λ i program version handler l stands is.
      injected-program d ps program version handler right.programs (subst (IsProgramOfWhat ps) is (all-at (λ (e : Planned). IsProgramOfWhat ps e.what) script.events i l right.each stands));
}

-- ---- bytes of an image

bytes-append : (xs ys : List ℕ) → IsBytes xs → IsBytes ys → IsBytes (xs ++ ys)
bytes-append [] ys first more i = more i
bytes-append (x ∷ xs) ys first more zero = first 0
bytes-append (x ∷ xs) ys first more (suc i) = bytes-append xs ys (λ j. first (suc j)) more i

bytes-cons : (b : ℕ) (xs : List ℕ) → b < 256 → IsBytes xs → IsBytes (b ∷ xs)
bytes-cons b xs low more zero = low
bytes-cons b xs low more (suc i) = more i

no-bytes : IsBytes []
no-bytes i = omega arith

byte-low : (i n : ℕ) → byte_at i n < 256
byte-low zero n = omega arith
byte-low (suc i) n = rest (n / 256 ^ suc i) where
  rest : (x : ℕ) → x % 256 < 256
  rest x = omega arith

number-bytes : (k n : ℕ) → IsBytes (bytes_high_first k n)
number-bytes zero n i = omega arith
number-bytes (suc k) n zero = byte-low k n
number-bytes (suc k) n (suc i) = number-bytes k n i

format-low : (size : ℕ) → format_of size < 256
format-low size = by (nat_le size SHORT_CODE) where
  by : (b : Bool) → (if b then 1 else 2) < 256
  by true = omega arith
  by false = omega arith

magic-bytes : IsBytes magic
magic-bytes =
    bytes-cons 0x4d (0x41 ∷ 0x54 ∷ 0x45 ∷ []) (omega arith)
    (bytes-cons 0x41 (0x54 ∷ 0x45 ∷ []) (omega arith) (bytes-cons 0x54 (0x45 ∷ []) (omega arith) (bytes-cons 0x45 [] (omega arith) no-bytes)))

image-bytes : (c : CapsuleParts) → IsCapsule c → IsBytes (capsule_image c)
image-bytes c is =
    let size = to_be_bytes w16 (length c.code) ++ c.code in
    let version = to_be_bytes w32 c.version ++ size in
    let machine = to_be_bytes w32 c.vm_id ++ version in
    let sized : IsBytes size = bytes-append (to_be_bytes w16 (length c.code)) c.code (number-bytes 2 (length c.code)) is.code in
    let numbered : IsBytes version = bytes-append (to_be_bytes w32 c.version) size (number-bytes 4 c.version) sized in
    let own : IsBytes machine = bytes-append (to_be_bytes w32 c.vm_id) version (number-bytes 4 c.vm_id) numbered in
    let formed : IsBytes (format_of (length c.code) ∷ c.handler ∷ machine) =
    bytes-cons (format_of (length c.code)) (c.handler ∷ machine) (format-low (length c.code)) (bytes-cons c.handler machine is.handler own) in
    bytes-append magic (format_of (length c.code) ∷ c.handler ∷ machine) magic-bytes formed

-- ---- what is injected is fit

pub programs-fit : (d : Description) (script : Script) (ps : List Program) → AreProgramsOfWorld d script ps → AreProgramsFit (code_world d script ps)
programs-fit d script ps right i p injects =
    let version = injected_are_versions d (meaning_of (shape_of d)) script (program_at ps) i p (right-script d script ps right) injects in
    let own = line-program d script ps i p right injects in
    let same : own.program.version ≡ p.version = ap (λ (x : HeldProgram). x.version) own.is in
    let image : own.program.image.items ≡ p.image.items = ap (λ (x : HeldProgram). x.image.items) own.is in
    let high : own.right.capsule.version < 2 ^ 32 = own.right.is_capsule.version_high in
    record {
      low = version.low;
      high = omega (arith, high, own.right.version, same);
      few = version.few;
      bytes = subst IsBytes (sym own.right.image ∙ image) (image-bytes own.right.capsule own.right.is_capsule);
    }

-- ---- what is installed is a right capsule

-- the program is of a right capsule
pub record IsCapsuleProgram (d : Description) (p : HeldProgram) : Type 0 where
  pub capsule : CapsuleParts
  pub right : IsRightCapsule d p.image.items capsule
  pub is : program_by capsule p.image.items ≡ p
  pub filled : p.image.items ≢ []

-- of what is right for the description, by its handler, version and image
pub capsule-program : (d : Description) (q : Program) (p : HeldProgram) → IsRightProgram d q → q.handler.0 ≡ p.handler.0 → q.version ≡ p.version → q.image.items ≡ p.image.items → IsCapsuleProgram d p
capsule-program d q p right handler version image = record {
  capsule = right.capsule;
  right = verified (bytes_verification (shape_of d) right.capsule.code) refl right.verified;
  is = λ i. record { handler = record { 0 = (right.handler ∙ handler) i }; version = (right.version ∙ version) i; image = p.image };
  filled = λ none. let clash : capsule_image right.capsule ≡ [] = sym image_is ∙ none in cc;
} where
  image_is : p.image.items ≡ capsule_image right.capsule
  image_is = sym image ∙ right.image

  verified : (r : Result (Code × Marks) VerifyFault) → bytes_verification (shape_of d) right.capsule.code ≡ r → IsOk r → IsRightCapsule d p.image.items right.capsule
  verified (Err refusal) is ok = (let clash : false ≡ true = ok in cc)
  verified (Ok x) is ok = record {
    decoded = ap (capsule_in d) image_is ∙ capsule_again d right.capsule right.is_capsule right.of_machine;
    code = x.0;
    marks = x.1;
    verified = is;
  }
