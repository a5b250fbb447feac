-- The programs of a made world.
use Rattle.std.proofs.Common.{◌≡◌, ℕ, zero, suc, ◌+◌, ◌*◌, ◌<◌, ◌≤◌, Bool, true, false, List, [], ◌∷◌, ◌++◌, length, map, replicate, Option, Some, None, Result, Ok, Err, refl, sym, ◌∙◌, ap, subst, arith, codes, inl, inr, length-append}
use Rattle.std.specs.Prelude.{slice_get, slice_index_or, All, IsSomeAnd, ⊤}
use Rattle.std.specs.List.{range_with_len, list_all}
use Rattle.std.proofs.lemmas.Bool.{cases_lt, and_parts}
use Rattle.std.proofs.lemmas.List.{length-replicate, length_push, get_or_default}
use Rattle.std.proofs.lemmas.List.Elements.{All-nil, All-cons, All-append, All-weaker}
use Rattle.script_reader.specs.Source.{source_of, source_with, source_head, assignment, first_sensor}
use Rattle.script_reader.proofs.NameLemmas.{name_is_one, sensor_name}
use Rattle.vm_shape.specs.Names.{is_name}
use Rattle.vm_shape.proofs.DescriptionLemmas.{items_of, bounds_of}
use Rattle.mate_num.specs.declared.bounds.TheConstants.{CODE_MAX, STACK_MAX}
use Rattle.mate_journal.specs.declared.program.Program.{Program}
use Rattle.command_refusals.proofs.CauseLemmas.{refusal_told, refused-by}
use Rattle.command_refusals.specs.declared.refusal.Refusal.{Refusal}
use Rattle.ts_compiler.specs.Compiled.{IsUncompiled}
use Rattle.command_steps.specs.SourceCode.{compiled_tree, IsCompiledOf}
use Rattle.command_steps.specs.Sources.{compiled, compiled_bytes}
use Rattle.command_steps.specs.Steps.{goes_on, stops, obtained}
use Rattle.command_steps.specs.declared.code.CompiledScript.{CompiledScript}
use Rattle.command_steps.proofs.AcceptanceLemmas.{one_tree, apart}
use Rattle.node_programs.specs.Right.{IsRightProgram, AreRightPrograms}
use Rattle.script_reader.specs.Sound.{IsSoundSource}
use Rattle.ts_checker.specs.Accepted.{IsAccepted}
use Rattle.ts_compiler.specs.declared.fault.CompileFault.{CompileFault}
use Rattle.ts_compiler.specs.declared.fault.CompileFault.TheVariants.{StackDepth, TooLong}
use Rattle.ts_fold.specs.Folded.{folded}
use Rattle.ts_fold.specs.Laws.{TakesNoMore}
use Rattle.ts_fold.proofs.StatementLemmas.{TakesNoMore-folded}
use Rattle.ts_semantics.specs.Translation.{script_need, script_size}
use Rattle.ts_checked.specs.Statement.{Block}
use Rattle.vm_shape.specs.Shapes.{shape_of}
use Rattle.vm_shape.specs.declared.description.Description.{Description}
use Rattle.script_reader.specs.Made as maker
use Rattle.script_reader.proofs.ListLemmas.{all_made}
use Rattle.script_reader.proofs.SortLemmas.{all_sorted}
use Rattle.script_steps.specs.World.{IsRightWorld}
use Rattle.script_steps.specs.declared.world.Planned.{Planned}
use Rattle.script_steps.specs.declared.world.What.{What}
use Rattle.script_steps.specs.declared.world.What.TheVariants as what
use Rattle.script_steps.specs.declared.world.World.{World}
use Rattle.node_programs.specs.WorldPrograms.{IsProgramOfWhat, AreProgramsOfWorld}
use Rattle.command_programs.specs.Made.{IsMadeOf, IsMade, AreOf, AreOfVersion, AreOfVersions}
use Rattle.command_programs.specs.declared.made.MadeWorld.{MadeWorld}

-- ---- the code of a sound source

record HasRoom (tree : Block) : Type 0 where
  need : script_need tree ≤ STACK_MAX
  size : script_size tree ≤ CODE_MAX

room-folded : (fold : Bool) (tree : Block) → HasRoom tree → HasRoom (compiled_tree fold tree)
room-folded true tree room =
    let less : TakesNoMore tree (folded tree) = TakesNoMore-folded tree in
    record { need = let a = less.need in let b = room.need in omega (arith, a, b); size = let a = less.size in let b = room.size in omega (arith, a, b) }
room-folded false tree room = room

has-code : (d : Description) (fold : Bool) (tree : Block) (fault : CompileFault) → HasRoom (compiled_tree fold tree) → IsUncompiled (compiled_tree fold tree) fault → ⊥
has-code d fold tree (StackDepth need) room over = let a : 16 < script_need (compiled_tree fold tree) = over.0 in let b = room.need in omega (arith, a, b)
has-code d fold tree (TooLong size) room over = let a = over.1 in let b = room.size in omega (arith, a, b)

-- what the compiler gives of a source
pub record HasCode (d : Description) (fold : Bool) (bytes : List ℕ) (c : CompiledScript) : Type 0 where
  pub tree : Block
  pub accepted : IsAccepted d bytes tree
  pub compiled_is : IsCompiledOf (shape_of d) fold tree c

of_tree : (d : Description) (fold : Bool) (name bytes : List ℕ) (tree : Block) (answer : Result CompiledScript Refusal) → IsAccepted d bytes tree → HasRoom tree → compiled d fold name tree answer
    → obtained (HasCode d fold bytes) answer
of_tree d fold name bytes tree (Ok c) accepted room is = record { tree = tree; accepted = accepted; compiled_is = is }
of_tree d fold name bytes tree (Err r) accepted room (inl why) = absurd (has-code d fold tree why.0 (room-folded fold tree room) why.1)
of_tree d fold name bytes tree (Err r) accepted room (inr wants) = wants

-- a sound source has code, or memory is wanting
pub sound-code : (d : Description) (fold : Bool) (name bytes : List ℕ) (answer : Result CompiledScript Refusal) → IsSoundSource d bytes → compiled_bytes d fold name bytes answer
    → obtained (HasCode d fold bytes) answer
sound-code d fold name bytes answer sound (goes_on tree accepted rest) =
    let same : sound.tree ≡ tree = one_tree d bytes sound.tree tree sound.accepted accepted in
    of_tree d fold name bytes tree answer accepted (subst HasRoom same (record { need = sound.need; size = sound.size })) rest
sound-code d fold name bytes answer sound (stops r (inl why) is) = absurd (apart d bytes sound.tree (refusal_told why.0) sound.accepted (refused-by d bytes why.0 why.1))
sound-code d fold name bytes answer sound (stops r (inr wants) is) = subst (obtained (HasCode d fold bytes)) (sym is) wants

-- ---- the loop over the handlers

slice_get-front : {A : Type 0} (xs ys : List A) (i : ℕ) → i < length xs → slice_get (xs ++ ys) i ≡ slice_get xs i
slice_get-front [] ys i p = absurd (omega (arith, p))
slice_get-front (x ∷ xs) ys zero p = refl
slice_get-front (x ∷ xs) ys (suc i) p = slice_get-front xs ys i (omega (arith, p))

slice_get-behind : {A : Type 0} (xs ys : List A) (i : ℕ) → slice_get (xs ++ ys) (length xs + i) ≡ slice_get ys i
slice_get-behind [] ys i = let e : 0 + i ≡ i = omega arith in ap (slice_get ys) e
slice_get-behind (x ∷ xs) ys i = let e : length (x ∷ xs) + i ≡ suc (length xs + i) = omega arith in ap (slice_get (x ∷ xs ++ ys)) e ∙ slice_get-behind xs ys i

pub AreOf-none : (d : Description) (fold : Bool) (version : ℕ) (bytes : List ℕ) → AreOf d fold version bytes 0 []
AreOf-none d fold version bytes = record { count = refl; each = λ k low. absurd (omega (arith, low)); right = All-nil (IsRightProgram d) }

pub AreOf-more : (d : Description) (fold : Bool) (version : ℕ) (bytes : List ℕ) (n : ℕ) (ps : List Program) (p : Program) → AreOf d fold version bytes n ps
    → IsMadeOf d fold (record { 0 = n }) version bytes p → IsRightProgram d p → AreOf d fold version bytes (n + 1) (ps ++ p ∷ [])
AreOf-more d fold version bytes n ps p are made right = record {
  count = length_push ps p ∙ ap (λ k. k + 1) are.count;
  each = λ k low. elim (cases_lt k n) [
    | inl less ↦ subst (λ (o : Option Program). IsSomeAnd o (IsMadeOf d fold (record { 0 = k }) version bytes)) (sym (slice_get-front ps (p ∷ []) k (let c = are.count in omega (arith, c, less)))) (are.each k less)
    | inr high ↦
        let same : k ≡ n = omega (arith, low, high) in
        let at : slice_get (ps ++ p ∷ []) k ≡ Some p = ap (λ (i : ℕ). slice_get (ps ++ p ∷ []) i) (let c = are.count in let e : k ≡ length ps + 0 = omega (arith, c, same) in e) ∙ slice_get-behind ps (p ∷ []) 0 in
        subst (λ (o : Option Program). IsSomeAnd o (IsMadeOf d fold (record { 0 = k }) version bytes)) (sym at)
        (subst (λ (i : ℕ). IsMadeOf d fold (record { 0 = i }) version bytes p) (sym same) made)
  ];
  right = All-append (IsRightProgram d) ps (p ∷ []) are.right (All-cons (IsRightProgram d) p [] right (All-nil (IsRightProgram d)));
}

-- names of a list that is the same text over and over
name-of : (x : List ℕ) (n h : ℕ) → h < n → slice_index_or (replicate n x) h [] ≡ x
name-of x zero h low = absurd (omega (arith, low))
name-of x (suc n) zero low = refl
name-of x (suc n) (suc h) low = name-of x n h (omega (arith, low))

name-front : (x : List ℕ) (ys : List (List ℕ)) (n h : ℕ) → h < n → slice_index_or (replicate n x ++ ys) h [] ≡ x
name-front x ys zero h low = absurd (omega (arith, low))
name-front x ys (suc n) zero low = refl
name-front x ys (suc n) (suc h) low = name-front x ys n h (omega (arith, low))

name-behind : (x : List ℕ) (ys : List (List ℕ)) (n h : ℕ) → slice_index_or (replicate n x ++ ys) (n + h) [] ≡ slice_index_or ys h []
name-behind x ys zero h = let e : 0 + h ≡ h = omega arith in ap (λ (k : ℕ). slice_index_or ys k []) e
name-behind x ys (suc n) h = let e : suc n + h ≡ suc (n + h) = omega arith in ap (λ (k : ℕ). slice_index_or (x ∷ replicate n x ++ ys) k []) e ∙ name-behind x ys n h

-- ---- both sources of a made world, each once for each handler

pub record HasSources (d : Description) (sources : List (List ℕ)) : Type 0 where
  pub low : 0 < length sources
  pub high : length d.handlers.items < length sources
  pub first : (x : List ℕ) → x ≡ slice_index_or sources 0 x → x ≡ source_of d 1
  pub second : (x : List ℕ) → x ≡ slice_index_or sources (length d.handlers.items) x → x ≡ source_of d 2

pub sources_are : (d : Description) (sources : List (List ℕ)) → sources ≡ maker.made_sources d → HasSources d sources
sources_are d sources are =
    let n : ℕ = length d.handlers.items in
    let both : List (List ℕ) = maker.made_sources d in
    let some : 1 ≤ n = (bounds_of d).handlers_low in
    let a = length-append (replicate n (source_of d 1)) (replicate n (source_of d 2)) in
    let b = length-replicate n (source_of d 1) in
    let c = length-replicate n (source_of d 2) in
    let low : 0 < length both = omega (arith, some, a, b, c) in
    let high : n < length both = omega (arith, some, a, b, c) in
    let here : n + 0 ≡ n = omega arith in
    subst (HasSources d) (sym are) (record {
      low = low;
      high = high;
      first = λ x is. is ∙ get_or_default both 0 x [] low ∙ name-front (source_of d 1) (replicate n (source_of d 2)) n 0 some;
      second = λ x is. is ∙ get_or_default both n x [] high ∙ ap (λ (k : ℕ). slice_index_or both k []) (sym here)
          ∙ name-behind (source_of d 1) (replicate n (source_of d 2)) n 0 ∙ name-of (source_of d 2) n 0 some;
    })

-- programs of the first one and then of the second one
pub versions_are : (d : Description) (fold : Bool) (old one two : List Program) (s t : List ℕ) → old ≡ [] → s ≡ source_of d 1 → t ≡ source_of d 2
    → AreOfVersion d fold 1 s (length d.handlers.items) old one → AreOfVersion d fold 2 t (length d.handlers.items) one two → AreOfVersions d fold two
versions_are d fold old one two s t none first second a b = record {
  first = a.more;
  second = b.more;
  is = b.is ∙ ap (λ (ps : List Program). ps ++ b.more) (a.is ∙ ap (λ (ps : List Program). ps ++ a.more) none);
  are_first = subst (λ (bs : List ℕ). AreOf d fold 1 bs (length d.handlers.items) a.more) first a.are;
  are_second = subst (λ (bs : List ℕ). AreOf d fold 2 bs (length d.handlers.items) b.more) second b.are;
}

-- ---- lines

-- the program of an injection is that of its file's source, for its handler as its version
abbrev IsMadeFor : Description → Bool → List (List ℕ) → List Program → What → Type 0
IsMadeFor d fold sources ps (what.Inject program h version) = IsSomeAnd (slice_get ps program) (IsMadeOf d fold h version (slice_index_or sources program []))
IsMadeFor d fold sources ps _ = ⊤

module _ (d : Description) (fold : Bool) (ps : List Program) (of : AreOfVersions d fold ps) where
  abbrev H : ℕ
  H = length d.handlers.items

  abbrev sources : List (List ℕ)
  sources = maker.made_sources d

  source-first : (h : ℕ) → h < H → slice_index_or sources h [] ≡ source_of d 1
  source-first h low = name-front (source_of d 1) (replicate H (source_of d 2)) H h low

  source-second : (h : ℕ) → h < H → slice_index_or sources (H + h) [] ≡ source_of d 2
  source-second h low = name-behind (source_of d 1) (replicate H (source_of d 2)) H h ∙ name-of (source_of d 2) H h low

  program-first : (h : ℕ) → h < H → IsSomeAnd (slice_get ps h) (IsMadeOf d fold (record { 0 = h }) 1 (slice_index_or sources h []))
  program-first h low =
      let at : slice_get ps h ≡ slice_get of.first h = ap (λ (l : List Program). slice_get l h) of.is ∙ slice_get-front of.first of.second h (let c = of.are_first.count in omega (arith, c, low)) in
      subst (λ (o : Option Program). IsSomeAnd o (IsMadeOf d fold (record { 0 = h }) 1 (slice_index_or sources h []))) (sym at)
      (subst (λ (bytes : List ℕ). IsSomeAnd (slice_get of.first h) (IsMadeOf d fold (record { 0 = h }) 1 bytes)) (sym (source-first h low)) (of.are_first.each h low))

  program-second : (h : ℕ) → h < H → IsSomeAnd (slice_get ps (H + h)) (IsMadeOf d fold (record { 0 = h }) 2 (slice_index_or sources (H + h) []))
  program-second h low =
      let at : slice_get ps (H + h) ≡ slice_get of.second h =
      ap (λ (l : List Program). slice_get l (H + h)) of.is ∙ ap (λ (n : ℕ). slice_get (of.first ++ of.second) (n + h)) (sym of.are_first.count) ∙ slice_get-behind of.first of.second h in
      subst (λ (o : Option Program). IsSomeAnd o (IsMadeOf d fold (record { 0 = h }) 2 (slice_index_or sources (H + h) []))) (sym at)
      (subst (λ (bytes : List ℕ). IsSomeAnd (slice_get of.second h) (IsMadeOf d fold (record { 0 = h }) 2 bytes)) (sym (source-second h low)) (of.are_second.each h low))

  abbrev IsMadeLine : Planned → Type 0
  IsMadeLine p = IsMadeFor d fold sources ps p.what

  lines-unsorted : (number nodes posts : ℕ) → All IsMadeLine (maker.unsorted number H nodes posts)
  lines-unsorted number nodes posts =
      All-append IsMadeLine (map (maker.first_injection nodes) (range_with_len 0 H))
      (map (maker.second_injection H nodes) (range_with_len 0 H) ++ map (maker.posting number H nodes) (range_with_len 1 posts))
      (all_made IsMadeLine (maker.first_injection nodes) 0 H (λ i low high. program-first i (omega (arith, high))))
      (All-append IsMadeLine (map (maker.second_injection H nodes) (range_with_len 0 H)) (map (maker.posting number H nodes) (range_with_len 1 posts))
      (all_made IsMadeLine (maker.second_injection H nodes) 0 H (λ i low high. program-second i (omega (arith, high))))
      (all_made IsMadeLine (maker.posting number H nodes) 1 posts (λ i low high. tt)))

  lines : (number : ℕ) → All IsMadeLine (maker.made_world d number).events
  unfolding maker.plan_of
  lines number = all_sorted IsMadeLine (maker.unsorted number H (maker.node_count number) 200) (lines-unsorted number (maker.node_count number) 200)

  count : length ps ≡ length sources
  count =
      let a = of.are_first.count in
      let b = of.are_second.count in
      let all = ap (λ (l : List Program). length l) of.is ∙ length-append of.first of.second in
      let s = length-append (replicate H (source_of d 1)) (replicate H (source_of d 2)) in
      let x = length-replicate H (source_of d 1) in
      let y = length-replicate H (source_of d 2) in
      omega (arith, a, b, all, s, x, y)

  right : AreRightPrograms d ps
  right = subst (All (IsRightProgram d)) (sym of.is) (All-append (IsRightProgram d) of.first of.second of.are_first.right of.are_second.right)

  pub is-made : (number : ℕ) (m : MadeWorld) → m.world ≡ maker.made_world d number → m.programs ≡ ps → IsMade d fold number m
  is-made number m world_is programs_are = record { world = world_is; programs = subst (AreOfVersions d fold) (sym programs_are) of }

  lines-made : (number : ℕ) (m : MadeWorld) → m.world ≡ maker.made_world d number → m.programs ≡ ps → All (λ (p : Planned). IsMadeFor d fold sources m.programs p.what) m.world.events
  lines-made number m world_is programs_are =
      subst (λ (w : World). All (λ (p : Planned). IsMadeFor d fold sources m.programs p.what) w.events) (sym world_is)
      (subst (λ (l : List Program). All (λ (p : Planned). IsMadeFor d fold sources l p.what) (maker.made_world d number).events) (sym programs_are) (lines number))

  -- and each is of its line
  pub programs-are : (number : ℕ) (m : MadeWorld) → IsRightWorld d m.world → m.world ≡ maker.made_world d number → m.programs ≡ ps → AreProgramsOfWorld d m.world m.programs
  programs-are number m right_world world_is programs_are = record {
    world = right_world;
    programs = subst (AreRightPrograms d) (sym programs_are) right;
    count = ap (λ (l : List Program). length l) programs_are ∙ count ∙ sources-count ∙ sym (ap (λ (w : World). length w.files) world_is ∙ files-count);
    each = of_lines m.world.events (lines-made number m world_is programs_are);
  } where
    sources-count : length sources ≡ 2 * H
    sources-count =
        let s = length-append (replicate H (source_of d 1)) (replicate H (source_of d 2)) in
        let x = length-replicate H (source_of d 1) in
        let y = length-replicate H (source_of d 2) in
        omega (arith, s, x, y)

    none : List ℕ
    none = []

    files-count : length (replicate (2 * H) none) ≡ 2 * H
    files-count = length-replicate (2 * H) none

    of_what : (w : What) → IsMadeFor d fold sources m.programs w → IsProgramOfWhat m.programs w
    of_what (what.Inject program handler version) is = by (slice_get m.programs program) is where
      by : (o : Option Program) → IsSomeAnd o (IsMadeOf d fold handler version (slice_index_or sources program [])) → IsSomeAnd o (λ p. (p.handler ≡ handler) × (p.version ≡ version))
      by None is = is
      by (Some p) is = (is.installed.handler, is.installed.version_is)
    of_what (what.Post handler payload) is = tt
    of_what what.Show is = tt
    of_what what.Reset is = tt
    of_what (what.Noise bytes) is = tt

    of_lines : (events : List Planned) → All (λ (p : Planned). IsMadeFor d fold sources m.programs p.what) events → All (λ (p : Planned). IsProgramOfWhat m.programs p.what) events
    of_lines events all = All-weaker (λ (p : Planned). IsMadeFor d fold sources m.programs p.what) (λ (p : Planned). IsProgramOfWhat m.programs p.what) (λ (p : Planned) is. of_what p.what is) events all

-- ---- the source's length

short-with : (d : Description) (s : List ℕ) (more : List (List ℕ)) (v : ℕ) → d.shared.items ≡ s ∷ more → (sensor : Option (List ℕ)) → first_sensor d.functions.items ≡ sensor → length (assignment s sensor v) ≤ 1000
short-with d s more v e sensor is =
    let items = items_of d in
    let name : is_name s ≡ true = (and_parts (is_name s) (list_all is_name more) (ap (list_all is_name) (sym e) ∙ items.each_shared)).0 in
    by sensor is (name_is_one s name).short where
      head : (s : List ℕ) → length s ≤ 16 → length (source_head s) ≤ 63
      head s short =
          let a = length-append (codes "shared ") s in
          let b = length-append (codes "shared " ++ s) (codes "; ") in
          let c = length-append ((codes "shared " ++ s) ++ codes "; ") s in
          let x = length-append (((codes "shared " ++ s) ++ codes "; ") ++ s) (codes " = ") in
          let y = length-append ((((codes "shared " ++ s) ++ codes "; ") ++ s) ++ codes " = ") s in
          let z = length-append (((((codes "shared " ++ s) ++ codes "; ") ++ s) ++ codes " = ") ++ s) (codes " + ") in
          omega (arith, a, b, c, x, y, z, short)

      by : (sensor : Option (List ℕ)) → first_sensor d.functions.items ≡ sensor → length s ≤ 16 → length (assignment s sensor v) ≤ 1000
      by None is short =
          let h = head s short in
          let a = length-append (source_head s) [] in
          let b = length-append (source_head s ++ []) ((48 + v) ∷ codes ";") in
          omega (arith, h, a, b)
      by (Some f) is short =
          let h = head s short in
          let items = items_of d in
          let other = (name_is_one f (sensor_name (length d.devices.items) d.functions.items f items.each_function is)).short in
          let t = length-append f (codes "() + ") in
          let a = length-append (source_head s) (f ++ codes "() + ") in
          let b = length-append (source_head s ++ (f ++ codes "() + ")) ((48 + v) ∷ codes ";") in
          omega (arith, h, other, t, a, b)

pub short-source : (d : Description) (v : ℕ) → length (source_of d v) ≤ 1000
unfolding source_of
short-source d v = by d.shared.items refl where
  by : (shared : List (List ℕ)) → d.shared.items ≡ shared → length (source_with (first_sensor d.functions.items) shared v) ≤ 1000
  by [] e = omega arith
  by (s ∷ more) e = short-with d s more v e (first_sensor d.functions.items) refl
