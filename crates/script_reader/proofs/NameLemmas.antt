-- The names of a machine, as a source's words, and its first sensor among its functions.
use Rattle.std.proofs.Common.{◌≡◌, ℕ, ◌+◌, ◌≤◌, Bool, true, false, not, ◌&&◌, ◌||◌, ◌==◌, nat_lt, nat_le, cond, List, [], ◌∷◌, ◌++◌, length, map, Option, Some, None, refl, sym, ◌∙◌, ap, arith}
use Rattle.std.specs.Option.{option_or}
use Rattle.std.specs.List.{list_any, list_all}
use Rattle.std.specs.Str.{bytes_eq}
use Rattle.std.proofs.lemmas.Bool.{and_parts, or_parts, ltb-true, cond-true, cond-false}
use Rattle.std.proofs.lemmas.List.Folds.{list_any-append}
use Rattle.std.proofs.lemmas.Slice.Eq.{bytes_eq-Decides}
use Rattle.mate_num.specs.declared.id.FunId.{FunId}
use Rattle.vm_shape.specs.declared.function.Function.{Function}
use Rattle.vm_shape.specs.declared.function.FunKind.{FunKind}
use Rattle.vm_shape.specs.declared.function.FunKind.TheVariants as fun
use Rattle.vm_shape.specs.Names as desc
use Rattle.vm_shape.specs.Names.{between, continues_name, is_keyword, has_form, is_name, stands_in, repeat_after}
use Rattle.mate_num.specs.Shapes.{is_device}
use Rattle.vm_shape.specs.Limits.{is_function, function_args}
use Rattle.ts_trees.specs.declared.token.TokenKind.{TokenKind}
use Rattle.ts_trees.specs.declared.token.TokenKind.TheVariants as kind
use Rattle.ts_trees.specs.Text.{token_text}
use Rattle.ts_trees.specs.Cut as cut
use Rattle.ts_trees.specs.Cut.{in_name, is_digit, word_kind}
use Rattle.ts_lexer.specs.Spans.{BeginsWith, Passes}
use Rattle.ts_lexer.proofs.WordLemmas.{NoneReads, among_none}
use Rattle.ts_checker.specs.Names.{function_from}
use Rattle.script_reader.specs.Source.{reads_sensor, first_sensor}

swap : (a b c : Bool) → ((a || b) || c) ≡ ((b || a) || c)
swap true true c = refl
swap true false c = refl
swap false true c = refl
swap false false c = refl

same_begins : (c : ℕ) → desc.begins_name c ≡ cut.begins_name c
same_begins c = swap (between 65 90 c) (between 97 122 c) (c == 95)

same_continues : (c : ℕ) → continues_name c ≡ in_name c
same_continues c = ap (λ b. b || is_digit c) (same_begins c)

all_pass : (cs : List ℕ) → list_all continues_name cs ≡ true → Passes in_name cs
all_pass [] h = tt
all_pass (c ∷ cs) h =
    let parts = and_parts (continues_name c) (list_all continues_name cs) h in
    (sym (same_continues c) ∙ parts.0, all_pass cs parts.1)

none_reads : (ks : List TokenKind) (w : List ℕ) → list_any (λ v. bytes_eq w v) (map token_text ks) ≡ false → NoneReads ks w
none_reads [] w h = tt
none_reads (k ∷ ks) w h =
    let parts = or_parts (bytes_eq w (token_text k)) (list_any (λ v. bytes_eq w v) (map token_text ks)) h in
    (parts.0, none_reads ks w parts.1)

-- bytes that are cut as one name
pub record IsOneName (w : List ℕ) : Type 0 where
  pub begins : BeginsWith cut.begins_name w
  pub passes : Passes in_name w
  pub short : length w ≤ 16
  pub kind_is : word_kind w ≡ kind.Name w

no_keyword : (w : List ℕ) → is_keyword w ≡ false → word_kind w ≡ kind.Name w
unfolding word_kind
no_keyword w h = among_none cut.keywords w (none_reads cut.keywords w h)

pub name_is_one : (w : List ℕ) → is_name w ≡ true → IsOneName w
name_is_one [] h = absurd cc
name_is_one (c ∷ cs) h =
    let parts = and_parts (has_form (c ∷ cs)) (not (is_keyword (c ∷ cs))) h in
    let form = and_parts (nat_lt (length cs) 16 && desc.begins_name c) (list_all continues_name cs) parts.0 in
    let front = and_parts (nat_lt (length cs) 16) (desc.begins_name c) form.0 in
    let first : cut.begins_name c ≡ true = sym (same_begins c) ∙ front.1 in
    record {
      begins = first;
      passes = (ap (λ b. b || is_digit c) first, all_pass cs form.1);
      short = omega (arith, ltb-true (length cs) 16 front.0);
      kind_is = no_keyword (c ∷ cs) (not_true (is_keyword (c ∷ cs)) parts.1);
    } where
      not_true : (b : Bool) → not b ≡ true → b ≡ false
      not_true true e = absurd cc
      not_true false e = refl

pub same_bytes : (w : List ℕ) → bytes_eq w w ≡ true
same_bytes w = (bytes_eq-Decides w w).1 refl

-- ---- the first sensor

some_name : {a b : List ℕ} → Some a ≡ Some b → a ≡ b
some_name e = cc

sensor_is : (k : FunKind) → reads_sensor k ≡ true → k ≡ fun.Sense
sensor_is fun.Sense h = refl
sensor_is _ h = absurd cc

pub sensor_name : (devices : ℕ) (fs : List Function) (f : List ℕ) → list_all (is_function devices) fs ≡ true → first_sensor fs ≡ Some f → is_name f ≡ true
sensor_name devices [] f all e = absurd cc
sensor_name devices (g ∷ fs) f all e = by (reads_sensor g.kind) e (λ e. sensor_name devices fs f parts.1 e)
  where
    parts : (is_function devices g ≡ true) × (list_all (is_function devices) fs ≡ true)
    parts = and_parts (is_function devices g) (list_all (is_function devices) fs) all

    own : is_name g.name ≡ true
    own = (and_parts (is_name g.name) (nat_le (function_args g.kind) 4) (and_parts (is_name g.name && nat_le (function_args g.kind) 4) (is_device devices g.device) (and_parts ((is_name g.name && nat_le (function_args g.kind) 4) && is_device devices g.device) (between 1 60000 g.latency) parts.0).0).0).0

    by : (b : Bool) → cond b (Some g.name) (first_sensor fs) ≡ Some f → (first_sensor fs ≡ Some f → is_name f ≡ true) → is_name f ≡ true
    by true e rest = ap is_name (sym (some_name e)) ∙ own
    by false e rest = rest e

-- a name behind others that don't repeat is none of them
not_seen : (seen : List (List ℕ)) (fs : List Function) (f : List ℕ) → repeat_after seen (map (λ g. g.name) fs) ≡ None → first_sensor fs ≡ Some f → stands_in seen f ≡ false
not_seen seen [] f apart e = absurd cc
not_seen seen (g ∷ fs) f apart e = by (stands_in seen g.name) refl apart (λ apart e. not_seen (seen ++ g.name ∷ []) fs f apart e)
  where
    last : (b : Bool) → stands_in seen g.name ≡ false → cond b (Some g.name) (first_sensor fs) ≡ Some f → (first_sensor fs ≡ Some f → stands_in (seen ++ g.name ∷ []) f ≡ false) → stands_in seen f ≡ false
    last true own e rest = ap (stands_in seen) (sym (some_name e)) ∙ own
    last false own e rest = (or_parts (stands_in seen f) (stands_in (g.name ∷ []) f) (sym (list_any-append (λ other. bytes_eq f other) seen (g.name ∷ [])) ∙ rest e)).0

    by : (b : Bool) → stands_in seen g.name ≡ b → cond b (Some g.name) (repeat_after (seen ++ g.name ∷ []) (map (λ g. g.name) fs)) ≡ None
        → (repeat_after (seen ++ g.name ∷ []) (map (λ g. g.name) fs) ≡ None → first_sensor fs ≡ Some f → stands_in (seen ++ g.name ∷ []) f ≡ false) → stands_in seen f ≡ false
    by true own apart rest = absurd cc
    by false own apart rest = last (reads_sensor g.kind) own e (rest apart)

pub record IsSensor (i : ℕ) (fs : List Function) (f : List ℕ) : Type 0 where
  pub id : FunId
  pub found : function_from i fs f ≡ Some (id, fun.Sense)

pub found_sensor : (i : ℕ) (seen : List (List ℕ)) (fs : List Function) (f : List ℕ) → repeat_after seen (map (λ g. g.name) fs) ≡ None → first_sensor fs ≡ Some f → IsSensor i fs f
found_sensor i seen [] f apart e = absurd cc
found_sensor i seen (g ∷ fs) f apart e = by (stands_in seen g.name) apart (λ apart e. found_sensor (i + 1) (seen ++ g.name ∷ []) fs f apart e)
  where
    last : (b : Bool) → reads_sensor g.kind ≡ b → cond b (Some g.name) (first_sensor fs) ≡ Some f → repeat_after (seen ++ g.name ∷ []) (map (λ g. g.name) fs) ≡ None
        → (first_sensor fs ≡ Some f → IsSensor (i + 1) fs f) → IsSensor i (g ∷ fs) f
    last true sense e apart rest =
        let own : bytes_eq f g.name ≡ true = ap (λ w. bytes_eq w g.name) (sym (some_name e)) ∙ same_bytes g.name in
        record { id = record { 0 = i }; found = cond-true (bytes_eq f g.name) _ _ own ∙ ap (λ k. Some (record { 0 = i }, k)) (sensor_is g.kind sense) }
    last false sense e apart rest =
        let unseen : stands_in (seen ++ g.name ∷ []) f ≡ false = not_seen (seen ++ g.name ∷ []) fs f apart e in
        let parts = or_parts (stands_in seen f) (stands_in (g.name ∷ []) f) (sym (list_any-append (λ other. bytes_eq f other) seen (g.name ∷ [])) ∙ unseen) in
        let other : bytes_eq f g.name ≡ false = (or_parts (bytes_eq f g.name) false parts.1).0 in
        let later : IsSensor (i + 1) fs f = rest e in
        record { id = later.id; found = cond-false (bytes_eq f g.name) _ _ other ∙ later.found }

    by : (b : Bool) → cond b (Some g.name) (repeat_after (seen ++ g.name ∷ []) (map (λ g. g.name) fs)) ≡ None
        → (repeat_after (seen ++ g.name ∷ []) (map (λ g. g.name) fs) ≡ None → first_sensor fs ≡ Some f → IsSensor (i + 1) fs f) → IsSensor i (g ∷ fs) f
    by true apart rest = absurd cc
    by false apart rest = last (reads_sensor g.kind) refl e apart (rest apart)

pub last_of_two : (a b : Option (List ℕ)) → option_or a b ≡ None → b ≡ None
last_of_two None b h = h
last_of_two (Some w) b h = absurd cc
