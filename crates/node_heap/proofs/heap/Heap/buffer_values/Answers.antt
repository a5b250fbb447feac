use Rattle.std.proofs.Common.{◌≡◌, ◌+◌, ◌-◌, ◌≤◌, arith, rules}
use Rattle.node_heap.proofs.HeapLemmas.{Opened, is-below-8, values_end, values-are}
use Rattle.node_heap.proofs.heap.Heap.buffer_values.Goals as goal

pub bounds-self-inside-from : goal.bounds-self-inside-from
bounds-self-inside-from c =
    let o : Opened c.self.inside c.args.self.now = record { is = c.self.invariant; values = c.self.told.0; lengths = c.self.told.1; view = c.self.view_is } in
    rw c.from.ensures (is-below-8 o c.args.buf.0 c.requires)

pub start_of-start-requires : goal.start_of-start-requires
start_of-start-requires c =
    let o : Opened c.self.inside c.args.self.now = record { is = c.self.invariant; values = c.self.told.0; lengths = c.self.told.1; view = c.self.view_is } in
    is-below-8 o c.args.buf.0 c.requires

pub slice_bounds-result-end : goal.slice_bounds-result-end
slice_bounds-result-end c =
    let o : Opened c.self.inside c.args.self.now = record { is = c.self.invariant; values = c.self.told.0; lengths = c.self.told.1; view = c.self.view_is } in
    let end' : c.start_of-start.result + c.from-size.result ≤ 96 =
    rw (c.start_of-start.ensures, c.from-size.ensures, c.from.ensures) (values_end o c.args.buf.0 c.requires) in
    search rules

pub returns-clause-value : goal.returns-clause-value
returns-clause-value c =
    let o : Opened c.self.inside c.args.self.now = record { is = c.self.invariant; values = c.self.told.0; lengths = c.self.told.1; view = c.self.view_is } in
    let e : c.start_of-start.result + c.from-size.result - c.start_of-start.result ≡ c.from-size.result = omega arith in
    rw (e, c.start_of-start.ensures, c.from-size.ensures, c.from.ensures) (values-are o c.args.buf.0 c.requires)

pub returns-clause-in_range : goal.returns-clause-in_range
returns-clause-in_range c =
    let o : Opened c.self.inside c.args.self.now = record { is = c.self.invariant; values = c.self.told.0; lengths = c.self.told.1; view = c.self.view_is } in
    is-below-8 o c.args.buf.0 c.requires
