use mathlib.Core.Path.{◌∙◌}
use Rattle.code_0f.proofs.Laws.{length_given, length_held, no_field, no_length}
use borrow.Author.Rules.{rules}
use Rattle.code_0f.proofs.field.Goals as goal
use Rattle.code_0f.proofs.field.Goals.{else-ext, else-given, else-given-2, then-ext, then-given+else-m-ne24, then-given-2}

pub returns-then-m-ne3 : goal.returns-then-m-ne3
returns-then-m-ne3 c = no_field _ c.byte-m.ensures c.args.given (search rules)

pub returns-then-m-ne24 : goal.returns-then-m-ne24
returns-then-m-ne24 c = no_length _ c.byte-m.ensures c.if-given.true (search rules)

pub returns : goal.returns
returns c = elim c.if-given.branch [ then-given+else-m-ne24 w ↦ length_given _ c.byte-m.ensures (elim c.if-given-2.branch [ then-given-2 v ↦ v.next-is ∙ rw v.if-given-2.true | else-given-2 v ↦ v.next-is ∙ rw v.if-given-2.false ]) (c.known.ensures ∙ (elim c.if-ext.branch [ then-ext v ↦ rw (v.group-is, v.if-ext.true) | else-ext v ↦ rw (v.group-is, v.if-ext.false) ])) w.if-given.true w.if-m-ne24.false w.byte.ensures w.length-is | else-given w ↦ length_held _ c.byte-m.ensures (elim c.if-given-2.branch [ then-given-2 v ↦ v.next-is ∙ rw v.if-given-2.true | else-given-2 v ↦ v.next-is ∙ rw v.if-given-2.false ]) (c.known.ensures ∙ (elim c.if-ext.branch [ then-ext v ↦ rw (v.group-is, v.if-ext.true) | else-ext v ↦ rw (v.group-is, v.if-ext.false) ])) w.if-given.false (search rules) w.length-is ]
