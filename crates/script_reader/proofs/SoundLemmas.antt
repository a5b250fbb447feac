-- The sources are accepted, within the limits.
use Rattle.std.proofs.Common.{◌≡◌, ℕ, ◌+◌, ◌≤◌, nat_lt, ℤ, pos, negsuc, Bool, true, false, cond, List, [], ◌∷◌, ◌++◌, length, map, codes, Option, Some, None, Ok, refl, sym, ◌∙◌, ap, subst, arith, append_assoc, append-nil}
use Rattle.std.specs.List.{position, list_all}
use Rattle.std.specs.Str.{bytes_eq}
use Rattle.std.proofs.lemmas.Bool.{cond-true, and_parts, lt-ltb}
use Rattle.mate_num.specs.Number.{wrap}
use Rattle.mate_num.specs.declared.id.FunId.{FunId}
use Rattle.vm_shape.specs.declared.description.Description.{Description}
use Rattle.vm_shape.specs.declared.function.FunKind.TheVariants as fun
use Rattle.vm_shape.specs.Bounds.{HasItems}
use Rattle.vm_shape.specs.Names.{is_name, first_repeat}
use Rattle.vm_shape.proofs.DescriptionLemmas.{items_of}
use Rattle.mate_code.specs.declared.instr.Instr.TheVariants as instr
use Rattle.mate_code.specs.Instr.{size_of}
use Rattle.ts_checked.specs.declared.bin_op.BinOp.TheVariants as op
use Rattle.ts_trees.specs.declared.word.Word.{Word}
use Rattle.ts_trees.specs.declared.script.Decl.{Decl}
use Rattle.ts_trees.specs.declared.script.DeclKind.TheVariants as decl
use Rattle.ts_checked.specs.declared.checked_stmt.CVar.TheVariants as var
use Rattle.ts_trees.specs.Tree.{Tree, number, variable, call, two, no_trees, set, act_then, no_acts, Source}
use Rattle.ts_checked.specs.Expression.{no_arguments, Num, Shared, Call, Two}
use Rattle.ts_checked.specs.Statement.{Block, no_statements, statement, Set}
use Rattle.ts_trees.specs.Cut.{cut, cut_from}
use Rattle.ts_trees.specs.Faults.{Spells}
use Rattle.ts_checker.specs.Names.{function_from}
use Rattle.ts_checker.specs.Checks.{checked_source}
use Rattle.ts_semantics.specs.Translation.{number_code}
use Rattle.script_reader.specs.Source.{first_sensor, source_head, assignment, source_with, source_of}
use Rattle.script_reader.specs.Sound.{IsSoundSource}
use Rattle.script_reader.proofs.NameLemmas.{IsOneName, name_is_one, same_bytes, sensor_name, IsSensor, found_sensor, last_of_two}
use Rattle.script_reader.proofs.CutLemmas.{target_place, operand_place, sensor_place, head_tokens, digit_tokens, call_tokens, text_with, digit_text, call_text, head_cut, digit_cut, call_cut}

-- ---- the script that the text spells

abbrev word : List ℕ → ℕ → Word
word name place = record { name = name; place = place }

abbrev declared : List ℕ → Decl
declared s = record { kind = decl.Shared; word = word s 7; first = true }

abbrev given : List ℕ → Tree → Source
given s e = record { decls = declared s ∷ []; body = act_then (set (word s (target_place s)) e) no_acts }

abbrev digit_given : List ℕ → ℕ → Tree
digit_given s v = two op.Add (variable (word s (operand_place s))) (number v)

abbrev call_given : List ℕ → List ℕ → ℕ → Tree
call_given s f v = two op.Add (two op.Add (variable (word s (operand_place s))) (call (word f (sensor_place s)) no_trees)) (number v)

digit_spells : (s : List ℕ) (v : ℕ) → Spells (head_tokens s (digit_tokens (sensor_place s) v)) (given s (digit_given s v))
digit_spells s v = record { derived = record { decls = (refl, tt); body = ((omega arith, tt, omega arith, tt), tt) }; spells = refl; places = refl; within = refl }

call_spells : (s f : List ℕ) (v : ℕ) → Spells (head_tokens s (call_tokens (sensor_place s) f v)) (given s (call_given s f v))
call_spells s f v = record { derived = record { decls = (refl, tt); body = ((omega arith, (omega arith, tt, omega arith, tt), omega arith, tt), tt) }; spells = refl; places = refl; within = refl }

-- ---- its checks

first_listed : (d : Description) (s : List ℕ) (more : List (List ℕ)) → d.shared.items ≡ s ∷ more → position (bytes_eq s) d.shared.items ≡ Some 0
first_listed d s more e = ap (position (bytes_eq s)) e ∙ rw (same_bytes s) (cond-true (nat_lt 0 (length (s ∷ more))) _ _ (lt-ltb 0 (length (s ∷ more)) (omega arith)))

abbrev digit_tree : ℕ → Block
digit_tree v = statement (Set (var.Shared (record { 0 = 0 })) (Two op.Add (Shared (record { 0 = 0 })) (Num (wrap (pos v))))) no_statements

abbrev call_tree : FunId → ℕ → Block
call_tree f v = statement (Set (var.Shared (record { 0 = 0 })) (Two op.Add (Two op.Add (Shared (record { 0 = 0 })) (Call f no_arguments)) (Num (wrap (pos v))))) no_statements

digit_checked : (d : Description) (s : List ℕ) (more : List (List ℕ)) (v : ℕ) → d.shared.items ≡ s ∷ more → checked_source d (given s (digit_given s v)) ≡ Ok (digit_tree v)
digit_checked d s more v e = rw (first_listed d s more e) (rw (same_bytes s) refl)

call_checked : (d : Description) (s f : List ℕ) (more : List (List ℕ)) (v : ℕ) (id : FunId) → d.shared.items ≡ s ∷ more → function_from 0 d.functions.items f ≡ Some (id, fun.Sense)
    → checked_source d (given s (call_given s f v)) ≡ Ok (call_tree id v)
call_checked d s f more v id e found = rw (first_listed d s more e) (rw (same_bytes s) (rw found refl))

-- ---- its size

number_size : (z : ℤ) → size_of (number_code z) ≤ 3
number_size (pos n) = by (nat_lt n 256)
  where
    by : (b : Bool) → size_of (cond b (instr.PushB n) (instr.PushW (pos n))) ≤ 3
    by true = omega arith
    by false = omega arith
number_size (negsuc n) = omega arith

empty_cut : cut [] ≡ Ok []
unfolding cut_from
empty_cut = refl

empty_sound : (d : Description) → IsSoundSource d []
empty_sound d = record {
  tree = no_statements;
  accepted = record {
    tokens = [];
    source = record { decls = []; body = no_acts };
    cuts = empty_cut;
    spells = record { derived = record { decls = tt; body = tt }; spells = refl; places = refl; within = refl };
    checks = refl;
  };
  need = omega arith;
  size = omega arith;
}

digit_sound : (d : Description) (s : List ℕ) (more : List (List ℕ)) (v : ℕ) → v ≤ 9 → d.shared.items ≡ s ∷ more → IsOneName s → IsSoundSource d (text_with s (digit_text v))
digit_sound d s more v small e one = record {
  tree = digit_tree v;
  accepted = record {
    tokens = head_tokens s (digit_tokens (sensor_place s) v);
    source = given s (digit_given s v);
    cuts = head_cut s (digit_text v) (digit_tokens (sensor_place s) v) one (digit_cut (sensor_place s) v small);
    spells = digit_spells s v;
    checks = digit_checked d s more v e;
  };
  need = omega arith;
  size = omega (arith, number_size (wrap (pos v)));
}

call_sound : (d : Description) (s f : List ℕ) (more : List (List ℕ)) (v : ℕ) (id : FunId) → v ≤ 9 → d.shared.items ≡ s ∷ more → IsOneName s → IsOneName f
    → function_from 0 d.functions.items f ≡ Some (id, fun.Sense) → IsSoundSource d (text_with s (call_text f v))
call_sound d s f more v id small e one other found = record {
  tree = call_tree id v;
  accepted = record {
    tokens = head_tokens s (call_tokens (sensor_place s) f v);
    source = given s (call_given s f v);
    cuts = head_cut s (call_text f v) (call_tokens (sensor_place s) f v) one (call_cut (sensor_place s) v f small other);
    spells = call_spells s f v;
    checks = call_checked d s f more v id e found;
  };
  need = omega arith;
  size = omega (arith, number_size (wrap (pos v)));
}

-- ---- the text as it is written

parts_joined : (a s b c e rest : List ℕ) → (((((((a ++ s) ++ b) ++ s) ++ c) ++ s) ++ e) ++ rest) ≡ a ++ (s ++ (b ++ (s ++ (c ++ (s ++ (e ++ rest))))))
parts_joined a s b c e rest = simp append_assoc

head_is : (s rest : List ℕ) → source_head s ++ rest ≡ text_with s rest
head_is s rest = parts_joined (codes "shared ") s (codes "; ") (codes " = ") (codes " + ") rest

text_of_call : (s f : List ℕ) (v : ℕ) → assignment s (Some f) v ≡ text_with s (call_text f v)
text_of_call s f v =
    append_assoc (source_head s) (f ++ codes "() + ") ((48 + v) ∷ codes ";") ∙ ap (λ r. source_head s ++ r) (append_assoc f (codes "() + ") ((48 + v) ∷ codes ";")) ∙ head_is s (call_text f v)

text_of_digit : (s : List ℕ) (v : ℕ) → assignment s None v ≡ text_with s (digit_text v)
text_of_digit s v = ap (λ h. h ++ (48 + v) ∷ codes ";") (append-nil (source_head s)) ∙ head_is s (digit_text v)

first_is_name : (shared : List (List ℕ)) (s : List ℕ) (more : List (List ℕ)) → shared ≡ s ∷ more → list_all is_name shared ≡ true → is_name s ≡ true
first_is_name shared s more e all = (and_parts (is_name s) (list_all is_name more) (ap (list_all is_name) (sym e) ∙ all)).0

no_repeat : (d : Description) → first_repeat (map (λ f. f.name) d.functions.items) ≡ None
no_repeat d =
    let bounds : HasItems d = items_of d in
    last_of_two (first_repeat (map (λ h. h.name) d.handlers.items)) _ (last_of_two (first_repeat d.devices.items) _ (last_of_two (first_repeat (d.shared.items ++ d.buffers.items)) _ bounds.distinct))

with_shared : (d : Description) (s : List ℕ) (more : List (List ℕ)) (v : ℕ) → v ≤ 9 → d.shared.items ≡ s ∷ more → (sensor : Option (List ℕ)) → first_sensor d.functions.items ≡ sensor
    → IsSoundSource d (assignment s sensor v)
with_shared d s more v small e None is =
    let items : HasItems d = items_of d in
    let one : IsOneName s = name_is_one s (first_is_name d.shared.items s more e items.each_shared) in
    let P : List ℕ → Type 0 = λ bytes. IsSoundSource d bytes in
    subst P (sym (text_of_digit s v)) (digit_sound d s more v small e one)
with_shared d s more v small e (Some f) is =
    let items : HasItems d = items_of d in
    let one : IsOneName s = name_is_one s (first_is_name d.shared.items s more e items.each_shared) in
    let other : IsOneName f = name_is_one f (sensor_name (length d.devices.items) d.functions.items f items.each_function is) in
    let sensor : IsSensor 0 d.functions.items f = found_sensor 0 [] d.functions.items f (no_repeat d) is in
    let P : List ℕ → Type 0 = λ bytes. IsSoundSource d bytes in
    subst P (sym (text_of_call s f v)) (call_sound d s f more v sensor.id small e one other sensor.found)

pub sound_source : (d : Description) (v : ℕ) → v ≤ 9 → IsSoundSource d (source_of d v)
unfolding source_of
sound_source d v small = by d.shared.items refl
  where
    by : (shared : List (List ℕ)) → d.shared.items ≡ shared → IsSoundSource d (source_with (first_sensor d.functions.items) shared v)
    by [] e = empty_sound d
    by (s ∷ more) e = with_shared d s more v small e (first_sensor d.functions.items) refl
