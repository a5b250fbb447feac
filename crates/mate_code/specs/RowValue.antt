-- The row that a value of the program is. (It follows the code.)
use Rattle.mate_code.specs.declared.row.Row.{Row}
use Rattle.mate_code.specs.Row as table

abbrev pub row_in : Row → table.Row
row_in r =
    record {
      opcode = r.opcode;
      name = r.name.now;
      form = r.form;
      pops = r.pops;
      pushes = r.pushes;
      flow = r.flow;
      uses = r.uses;
    }
