-- What a step on a file answers, if it is known what the files hold.
use Rattle.std.proofs.Common.{◌≡◌, ◌≢◌, ◌<◌, ◌≤◌, ◌∙◌, inl, inr, ℕ, List, length, Option, None, Some, Result, Ok, Err, false, refl, sym, ap, subst, arith}
use Rattle.std.specs.Prelude.{IsSomeAnd, IfErr, IfOk}
use Rattle.std.specs.Global.{Vec}
use Rattle.mate_files.specs.Files.{Names, WhereTold}
use Rattle.ts_checked.specs.Checked.{checked_tree}
use Rattle.ts_checker.specs.Accepted.{IsAccepted}
use Rattle.command_steps.specs.declared.code.CompiledScript.{CompiledScript}
use Rattle.vm_shape.specs.Limits.{Parts}
use Rattle.vm_shape.specs.declared.description.Description.{Description}
use Rattle.vm_desc.specs.Text.{description_of}
use Rattle.command_line.specs.Commands.{builtin_word}
use Rattle.command_refusals.specs.declared.cause.Cause.TheVariants as cause
use Rattle.command_refusals.specs.declared.cause.Unread.{Unread}
use Rattle.command_refusals.specs.declared.cause.Unread.TheVariants.{Failed, Large}
use Rattle.command_refusals.specs.declared.refusal.Refusal.{Refusal}
use Rattle.command_refusals.specs.declared.refusal.Refusal.TheVariants.{InFile, NoMemory}
use Rattle.command_steps.specs.Expansions.{script_with_procedures, expanded_script, expanded_bytes, expanded_source, expansion_in}
use Rattle.ts_proc_names.specs.declared.named.PScript.{PScript}
use Rattle.ts_proc_names.specs.Named.{written_of}
use Rattle.ts_trees.specs.Tree.{ProcedureSource, Source}
use Rattle.command_steps.specs.Parts.{Folder, IsRead, IsUnread, file, machine, machine_file, machine_text}
use Rattle.command_steps.specs.Sources.{source}
use Rattle.command_steps.specs.Steps.{Then, goes_on, stops}
use Rattle.callers_commands.specs.Folders.{HoldsFile, RefusesAs}

-- a fact of the names that are told
named : (f : Folder) (name : List ℕ) (held : Option (List ℕ)) (P : Option (List ℕ) → Type 0) (h : HoldsFile f name held) → WhereTold f.told (λ names. P (names name)) → P held
named f name held P h told =
    let here : P (h.names name) = subst (λ (t : Option Names). WhereTold t (λ names. P (names name))) h.told_is told in
    subst P h.held_is here

-- the bytes that are read are those that are held
pub same_bytes : (f : Folder) (name bytes : List ℕ) (read : Vec ℕ) → HoldsFile f name (Some bytes) → IsRead f name read → read.items ≡ bytes
same_bytes f name bytes read h is =
    let e : Some bytes ≡ Some read.items = named f name (Some bytes) (λ o. o ≡ Some read.items) h is.1 in cc

never_read : (f : Folder) (name : List ℕ) (read : Vec ℕ) → HoldsFile f name None → IsRead f name read → ⊥
never_read f name read h is = let e : None ≡ Some read.items = named f name None (λ o. o ≡ Some read.items) h is.1 in cc

-- why a missing file, a large one and one that is there aren't read
missing_as : (f : Folder) (name : List ℕ) (why : Unread) → HoldsFile f name None → IsUnread f name why → why ≡ Failed
missing_as f name Failed h is = refl
missing_as f name Large h is = absurd (named f name None (λ o. IsSomeAnd o (λ bytes. 1048576 < length bytes)) h is)

large_as : (f : Folder) (name bytes : List ℕ) (why : Unread) → HoldsFile f name (Some bytes) → IsUnread f name why → why ≡ Large
large_as f name bytes Failed h is = let e : Some bytes ≡ None = named f name (Some bytes) (λ o. o ≡ None) h (is h.steady_is) in cc
large_as f name bytes Large h is = refl

never_unread : (f : Folder) (name bytes : List ℕ) (why : Unread) → HoldsFile f name (Some bytes) → length bytes ≤ 1048576 → IsUnread f name why → ⊥
never_unread f name bytes Failed h few is = let e : Some bytes ≡ None = named f name (Some bytes) (λ o. o ≡ None) h (is h.steady_is) in cc
never_unread f name bytes Large h few is =
    let many : 1048576 < length bytes = named f name (Some bytes) (λ o. IsSomeAnd o (λ bytes. 1048576 < length bytes)) h is in omega arith

told_as : (f : Folder) (name : List ℕ) (told : Unread) → ((why : Unread) → IsUnread f name why → why ≡ told) → (r : Refusal) → file f name (Err r) → RefusesAs {A = Vec ℕ} (InFile name (cause.Unread told)) (Err r)
told_as f name told only r (inl x) = inl (x.2 ∙ ap (λ (why : Unread). InFile name (cause.Unread why)) (only x.0 x.1))
told_as f name told only r (inr wanting) = inr wanting

pub wanting_alone : (f : Folder) (name bytes : List ℕ) → HoldsFile f name (Some bytes) → length bytes ≤ 1048576 → (r : Refusal) → file f name (Err r) → r ≡ NoMemory
wanting_alone f name bytes h few r (inl x) = absurd (never_unread f name bytes x.0 h few x.1)
wanting_alone f name bytes h few r (inr wanting) = wanting

-- ---- whole answers

-- where a step is refused so, what is made of it is
pub refuses_first : {A B : Type 0} (why : Refusal) (step : Result A Refusal → Type 0) (next : A → Result B Refusal → Type 0) (r : Result B Refusal)
    → ((a : Result A Refusal) → step a → RefusesAs why a) → Then step next r → RefusesAs why r
refuses_first why step next r refuses (goes_on a is after) = absurd (refuses (Ok a) is)
refuses_first {B = B} why step next r refuses (stops e is same) = subst (RefusesAs {A = B} why) (sym same) (refuses (Err e) is)

missing_read : (f : Folder) (name : List ℕ) (r : Result (Vec ℕ) Refusal) → HoldsFile f name None → file f name r → RefusesAs (InFile name (cause.Unread Failed)) r
missing_read f name (Ok read) h is = never_read f name read h is
missing_read f name (Err r) h is = told_as f name Failed (λ w. missing_as f name w h) r is

pub missing_file : {A : Type 0} (f : Folder) (name : List ℕ) (next : Vec ℕ → Result A Refusal → Type 0) (r : Result A Refusal) → HoldsFile f name None → Then (file f name) next r
    → RefusesAs (InFile name (cause.Unread Failed)) r
missing_file f name next r h = refuses_first (InFile name (cause.Unread Failed)) (file f name) next r (λ a. missing_read f name a h)

pub large_file : (f : Folder) (name bytes : List ℕ) (r : Result (Vec ℕ) Refusal) → HoldsFile f name (Some bytes) → 1048576 < length bytes → file f name r
    → RefusesAs (InFile name (cause.Unread Large)) r
large_file f name bytes (Ok read) h many is =
    let same : length read.items ≡ length bytes = ap length (same_bytes f name bytes read h is) in
    let few : length read.items ≤ 1048576 = is.0 in omega arith
large_file f name bytes (Err r) h many is = told_as f name Large (λ w. large_as f name bytes w h) r is

pub missing_machine : (f : Folder) (word : List ℕ) (r : Result Description Refusal) → HoldsFile f word None → word ≢ builtin_word → machine f word r
    → RefusesAs (InFile word (cause.Unread Failed)) r
missing_machine f word r h other (inl x) = absurd (other x.0)
missing_machine f word r h other (inr x) = missing_file f word _ r h x.1

machine_wanting : (bytes : List ℕ) (parts : Parts) (r : Result Description Refusal) → description_of bytes ≡ Ok parts
    → machine_text bytes r → IfErr r (λ why. why ≡ NoMemory)
machine_wanting bytes parts (Ok d) right is = tt
machine_wanting bytes parts (Err r) right (inl x) = let wrong = x.1 in cc
machine_wanting bytes parts (Err r) right (inr wanting) = wanting

right_file : (f : Folder) (word bytes : List ℕ) (parts : Parts) (r : Result Description Refusal) → HoldsFile f word (Some bytes) → length bytes ≤ 1048576
    → description_of bytes ≡ Ok parts → machine_file f word r → IfErr r (λ why. why ≡ NoMemory)
right_file f word bytes parts r h few right (goes_on read is after) =
    machine_wanting read.items parts r (ap description_of (same_bytes f word bytes read h is) ∙ right) after
right_file f word bytes parts r h few right (stops why is same) =
    subst (λ (a : Result Description Refusal). IfErr a (λ why. why ≡ NoMemory)) (sym same) (wanting_alone f word bytes h few why is)

pub right_machine : (f : Folder) (word bytes : List ℕ) (parts : Parts) (r : Result Description Refusal) → word ≢ builtin_word → HoldsFile f word (Some bytes) → length bytes ≤ 1048576
    → description_of bytes ≡ Ok parts → machine f word r → IfErr r (λ why. why ≡ NoMemory)
right_machine f word bytes parts r other h few right (inl x) = absurd (other x.0)
right_machine f word bytes parts r other h few right (inr x) = right_file f word bytes parts r h few right x.1

pub keeps_tree : (f : Folder) (d : Description) (name bytes : List ℕ) (c : CompiledScript) → HoldsFile f name (Some bytes) → source f d false name (Ok c)
    → IsAccepted d bytes (checked_tree c.script)
keeps_tree f d name bytes c h (goes_on read is (goes_on tree accepted compiled)) =
    subst (λ (bs : List ℕ). IsAccepted d bs (checked_tree c.script)) (same_bytes f name bytes read h is) (subst (IsAccepted d read.items) (sym compiled.tree_is) accepted)
keeps_tree f d name bytes c h (goes_on read is (stops r refused same)) = cc
keeps_tree f d name bytes c h (stops r refused same) = cc

-- ---- expansions

-- this answer doesn't say that the file is unread
abbrev IsNotUnread : {A : Type 0} → List ℕ → Result A Refusal → Type 0
IsNotUnread name r = IfErr r (λ why. (unread : Unread) → why ≢ InFile name (cause.Unread unread))

read_but_wanting : (name : List ℕ) (r : Refusal) (unread : Unread) → r ≡ NoMemory → r ≢ InFile name (cause.Unread unread)
read_but_wanting name r unread wanting clash = cc

unexpanded : (name : List ℕ) (source : ProcedureSource) (r : Result Source Refusal) → expanded_script name source r → IsNotUnread name r
unexpanded name source (Ok s) is = tt
unexpanded name source (Err r) (inl x) = λ unread clash. let told = x.2 in cc
unexpanded name source (Err r) (inr wanting) = λ unread. read_but_wanting name r unread wanting

unread_script : (name bytes : List ℕ) (why : Refusal) → script_with_procedures name bytes (Err why) → (unread : Unread) → why ≢ InFile name (cause.Unread unread)
unread_script name bytes why (inl x) = λ unread clash. let told = x.2 in cc
unread_script name bytes why (inr wanting) = λ unread. read_but_wanting name why unread wanting

bytes_were_read : (name bytes : List ℕ) (r : Result Source Refusal) → expanded_bytes name bytes r → IsNotUnread name r
bytes_were_read name bytes r (goes_on s spelled after) = unexpanded name (written_of s) r after
bytes_were_read name bytes r (stops why refused same) = subst (IsNotUnread {A = Source} name) (sym same) (unread_script name bytes why refused)

pub was_read : (f : Folder) (name bytes : List ℕ) (r : Result Source Refusal) → HoldsFile f name (Some bytes) → length bytes ≤ 1048576 → expanded_source f name r
    → IfErr r (λ why. (unread : Unread) → why ≢ InFile name (cause.Unread unread))
was_read f name bytes r h few (goes_on read is after) = bytes_were_read name read.items r after
was_read f name bytes r h few (stops why is same) =
    subst (IsNotUnread {A = Source} name) (sym same) (λ unread. read_but_wanting name why unread (wanting_alone f name bytes h few why is))

-- the script with procedures is told as its expansion is
pub told_alike : (name : List ℕ) (result : Result PScript Refusal) → IsNotUnread name (expansion_in result) → IsNotUnread name result
told_alike name (Ok s) is = tt
told_alike name (Err r) is = is

pub keep_trees : (f : Folder) (d : Description) (name bytes : List ℕ) (r : Result CompiledScript Refusal) → HoldsFile f name (Some bytes) → source f d false name r
    → IfOk r (λ c. IsAccepted d bytes (checked_tree c.script))
keep_trees f d name bytes (Ok c) h is = keeps_tree f d name bytes c h is
keep_trees f d name bytes (Err r) h is = tt
