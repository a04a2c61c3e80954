use Rattle.un_top.proofs.faults.write_line.Goals as goal

pub returns-in-TextFault-clause-prefix : goal.returns-in-TextFault-clause-prefix
returns-in-TextFault-clause-prefix g c = rw c.in-TextFault.is c.write_fault.ensures.prefix

pub returns-in-Usage-clause-all : goal.returns-in-Usage-clause-all
returns-in-Usage-clause-all g c = rw c.in-Usage.is c.write_numbered.ensures.all

pub returns-in-ReadFault-clause-all : goal.returns-in-ReadFault-clause-all
returns-in-ReadFault-clause-all g c = let h = c.write_all-in-ReadFault.ensures.all in rw c.in-ReadFault.is h

pub returns-in-BadReport-clause-all : goal.returns-in-BadReport-clause-all
returns-in-BadReport-clause-all g c = rw c.in-BadReport.is c.write_numbered-in-BadReport.ensures.all
