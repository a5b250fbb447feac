use Rattle.std.proofs.Common.{◌≡◌, true, not, Ok, ap, sym, ◌∙◌, arith}
use Rattle.std.specs.Prelude.{is_none}
use Rattle.ts_checker.specs.Names.{symbol_of, made}
use Rattle.ts_checker.specs.Seen.{scope_names}
use Rattle.ts_checker.proofs.RoomLemmas.{fit_made, room_made}
use Rattle.ts_checker.proofs.scope.Scope.declare.Goals as goal

pub push-requires : goal.push-requires
push-requires c =
    let none : is_none (symbol_of c.args.self.now.names.items c.args.decl.now.word.name) ≡ true =
    ap (λ o. is_none o) (sym c.symbol.ensures) ∙ ap not (sym c.is_some.ensures ∙ c.if-is_some.false) in
    let made_so : made (scope_names c.args.self.now) c.args.decl.now.kind c.args.decl.now.word.name ≡ Ok c.in_ok-symbol.symbol = sym c.made.ensures ∙ c.in_ok-symbol.was in
    (omega arith, room_made (scope_names c.args.self.now) c.args.decl.now.kind c.args.decl.now.word.name c.in_ok-symbol.symbol c.requires none made_so)

pub returns-clause-fit : goal.returns-clause-fit
returns-clause-fit c =
    let none : is_none (symbol_of c.args.self.now.names.items c.args.decl.now.word.name) ≡ true =
    ap (λ o. is_none o) (sym c.symbol.ensures) ∙ ap not (sym c.is_some.ensures ∙ c.if-is_some.false) in
    let made_so : made (scope_names c.args.self.now) c.args.decl.now.kind c.args.decl.now.word.name ≡ Ok c.in_ok-symbol.symbol = sym c.made.ensures ∙ c.in_ok-symbol.was in
    fit_made (scope_names c.args.self.now) c.args.decl.now.kind c.args.decl.now.word.name c.copy-name.result c.in_ok-symbol.symbol c.push.new.self.items c.requires none made_so c.copy-name.ensures c.push.ensures.items
