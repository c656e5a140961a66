use Rattle.std.proofs.Common.{rules, Err, inl, codes, arith}
use Rattle.std.proofs.lemmas.List.Elements.{All-nil}
use Rattle.std.proofs.lemmas.Grind.{elements}
use Rattle.tsn_device.specs.declared.device.ReadFault.TheVariants.{TooLong, Memory}
use Rattle.tsn_outcome.specs.Run.{IsUnwritten}
use Rattle.tsn_outcome.specs.Outcome.{output_of}
use Rattle.tsn_outcome.proofs.RunLemmas.{text_beginning, text_whole, told_fault}
use Rattle.tsn_outcome.proofs.run.respond.Goals as goal

pub returns-in-Err-TooLong : goal.returns-in-Err-TooLong
returns-in-Err-TooLong g c = record {
  whole = λ done. let line = c.finish-in-Err-TooLong.ensures.whole done in
      (output_of (Err TooLong), told_fault output_of c.args.answer.now TooLong (search rules), search rules, (text_whole _ _ _ _ (search rules) line.1, tt), search rules);
  unread = search rules;
  device = λ device unbroken. search rules;
  beginning = λ failed. let line = text_beginning _ _ _ (codes "too long\n") (search rules) (c.finish-in-Err-TooLong.ensures.beginning (search rules)) in
      (search rules, (output_of (Err TooLong), told_fault output_of c.args.answer.now TooLong (search rules), inl (line.0, line.1, All-nil IsUnwritten)));
}

pub returns-in-Err-Memory : goal.returns-in-Err-Memory
returns-in-Err-Memory g c = record {
  whole = λ done. let line = c.finish-in-Err-Memory.ensures.whole done in
      (output_of (Err Memory), told_fault output_of c.args.answer.now Memory (search rules), search rules, (text_whole _ _ _ _ (search rules) line.1, tt), search rules);
  unread = search rules;
  device = λ device unbroken. search rules;
  beginning = λ failed. let line = text_beginning _ _ _ (codes "no memory\n") (search rules) (c.finish-in-Err-Memory.ensures.beginning (search rules)) in
      (search rules, (output_of (Err Memory), told_fault output_of c.args.answer.now Memory (search rules), inl (line.0, line.1, All-nil IsUnwritten)));
}

pub finish-requires-clause-few_failures : goal.finish-requires-clause-few_failures
finish-requires-clause-few_failures c = grind (arith, elements) steps 2000000

pub finish-requires-clause-not_device : goal.finish-requires-clause-not_device
finish-requires-clause-not_device c = grind (arith, elements) steps 2000000

pub finish-requires-in-Err-TooLong-clause-few_failures : goal.finish-requires-in-Err-TooLong-clause-few_failures
finish-requires-in-Err-TooLong-clause-few_failures c = grind (arith, elements) steps 2000000

pub finish-requires-in-Err-TooLong-clause-not_device : goal.finish-requires-in-Err-TooLong-clause-not_device
finish-requires-in-Err-TooLong-clause-not_device c = grind (arith, elements) steps 2000000

pub finish-requires-in-Err-Memory-clause-few_failures : goal.finish-requires-in-Err-Memory-clause-few_failures
finish-requires-in-Err-Memory-clause-few_failures c = grind (arith, elements) steps 2000000

pub finish-requires-in-Err-Memory-clause-not_device : goal.finish-requires-in-Err-Memory-clause-not_device
finish-requires-in-Err-Memory-clause-not_device c = grind (arith, elements) steps 2000000
