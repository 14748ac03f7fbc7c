-- A program's grammar as the automaton has it. Assumes nothing.
use Rattle.reading.specs.declared.grammar.Grammar.{Grammar}
use Rattle.reading.specs.Scanning as automaton

abbrev pub grammar_of : Grammar → automaton.Grammar
grammar_of g = record { symbols = g.symbols.now; variables = g.variables; places = g.places; brackets = g.brackets }
