use Rattle.std.proofs.Common.{◌≤◌, ◌<◌, ℕ, List, Result, Ok, Err, length, sym, subst}
use Rattle.mate_files.specs.declared.files.TheConstants.{FILE_MAX}
use Rattle.command_refusals.specs.declared.refusal.Refusal.{Refusal}
use Rattle.command_steps.specs.Sources.{compiled_bytes}
use Rattle.command_steps.specs.declared.code.CompiledScript.{CompiledScript}
use Rattle.command_programs.specs.Known.{IsKnownAt}
use Rattle.command_programs.proofs.KnownLemmas.{IsKnownAt-below, err-as, known-gives, gives-obtained, filled-obtained}
use Rattle.command_programs.proofs.known.KnownSources.compiled.Goals as goal

pub returns-in-Some-clause-does : goal.returns-in-Some-clause-does
returns-in-Some-clause-does c =
    let at = subst (λ (bs : List ℕ). IsKnownAt c.args.self.now bs c.in-Some.place) c.as_slice.ensures.value c.in-Some.ensures in
    let its = known-gives c.args.desc.now c.args.fold c.args.self.now c.args.name.now c.args.bytes.items c.in-Some.place c.index.result.now c.requires.known at c.index.ensures in
    gives-obtained c.args.desc.now c.args.fold c.args.name.now c.args.bytes.items c.index.result.now.compiled c.share-shared.result its.gives c.share-shared.ensures

pub returns-in-Some-clause-filled : goal.returns-in-Some-clause-filled
returns-in-Some-clause-filled c =
    let at = subst (λ (bs : List ℕ). IsKnownAt c.args.self.now bs c.in-Some.place) c.as_slice.ensures.value c.in-Some.ensures in
    let its = known-gives c.args.desc.now c.args.fold c.args.self.now c.args.name.now c.args.bytes.items c.in-Some.place c.index.result.now c.requires.known at c.index.ensures in
    filled-obtained c.index.result.now.compiled c.share-shared.result its.filled c.share-shared.ensures

pub returns-in_err-compiled-in-None-clause-does : goal.returns-in_err-compiled-in-None-clause-does
returns-in_err-compiled-in-None-clause-does c =
    let e = c.in_err-compiled-in-None.field-0.0 in
    err-as (λ (r : Result CompiledScript Refusal). compiled_bytes c.args.desc.now c.args.fold c.args.name.now c.args.bytes.items r) e c.from_residual.result
    (subst (λ (bs : List ℕ). compiled_bytes c.args.desc.now c.args.fold c.args.name.now bs (Err e)) c.as_slice-in-None.ensures.value c.in_err-compiled-in-None.ensures.does) c.from_residual.ensures.1

pub remember-requires-clause-gives : goal.remember-requires-clause-gives
remember-requires-clause-gives c =
    gives-obtained c.args.desc.now c.args.fold c.args.name.now c.args.bytes.items c.in_ok-compiled-in-None.compiled (Ok c.in_ok-shared-in-None.shared)
    (subst (λ (bs : List ℕ). compiled_bytes c.args.desc.now c.args.fold c.args.name.now bs (Ok c.in_ok-compiled-in-None.compiled)) c.as_slice-in-None.ensures.value c.in_ok-compiled-in-None.ensures.does) c.in_ok-shared-in-None.ensures

pub returns-in_ok-shared-in-None-clause-does : goal.returns-in_ok-shared-in-None-clause-does
returns-in_ok-shared-in-None-clause-does c =
    gives-obtained c.args.desc.now c.args.fold c.args.name.now c.args.bytes.items c.in_ok-compiled-in-None.compiled (Ok c.in_ok-shared-in-None.shared)
    (subst (λ (bs : List ℕ). compiled_bytes c.args.desc.now c.args.fold c.args.name.now bs (Ok c.in_ok-compiled-in-None.compiled)) c.as_slice-in-None.ensures.value c.in_ok-compiled-in-None.ensures.does) c.in_ok-shared-in-None.ensures

pub returns-in_err-shared-in-None-clause-does : goal.returns-in_err-shared-in-None-clause-does
returns-in_err-shared-in-None-clause-does c =
    let e = c.in_err-shared-in-None.field-0.0 in
    err-as (λ (r : Result CompiledScript Refusal). compiled_bytes c.args.desc.now c.args.fold c.args.name.now c.args.bytes.items r) e c.from_residual-in_err-shared-in-None.result
    (gives-obtained c.args.desc.now c.args.fold c.args.name.now c.args.bytes.items c.in_ok-compiled-in-None.compiled (Err e)
    (subst (λ (bs : List ℕ). compiled_bytes c.args.desc.now c.args.fold c.args.name.now bs (Ok c.in_ok-compiled-in-None.compiled)) c.as_slice-in-None.ensures.value c.in_ok-compiled-in-None.ensures.does) c.in_err-shared-in-None.ensures)
    c.from_residual-in_err-shared-in-None.ensures.1

pub compiled_bytes-requires : goal.compiled_bytes-requires
compiled_bytes-requires c = subst (λ (bs : List ℕ). length bs ≤ FILE_MAX) (sym c.as_slice-in-None.ensures.value) c.requires.short

pub remember-requires-clause-known : goal.remember-requires-clause-known
remember-requires-clause-known c = c.requires.known

pub remember-requires-clause-filled : goal.remember-requires-clause-filled
remember-requires-clause-filled c = subst (λ (s : CompiledScript). 1 ≤ length s.code.items) (sym c.in_ok-shared-in-None.ensures) c.in_ok-compiled-in-None.ensures.filled

pub returns-in_ok-shared-in-None-clause-filled : goal.returns-in_ok-shared-in-None-clause-filled
returns-in_ok-shared-in-None-clause-filled c = subst (λ (s : CompiledScript). 1 ≤ length s.code.items) (sym c.in_ok-shared-in-None.ensures) c.in_ok-compiled-in-None.ensures.filled

pub index-requires : goal.index-requires
index-requires c =
    subst (λ (n : ℕ). c.in-Some.place < n) (sym c.args.self.now.sources.ok.0) (IsKnownAt-below c.args.self.now c.as_slice.result.now c.in-Some.place c.in-Some.ensures)
