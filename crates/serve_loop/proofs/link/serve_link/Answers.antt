use Rattle.std.proofs.Common.{refl}
use Rattle.serve_loop.proofs.Linking.{link_cut, link_goes, link_read_fault, link_write_fault}
use Rattle.serve_loop.proofs.Served.{link_texts}
use Rattle.serve_loop.proofs.link.serve_link.Goals as goal

pub returns-clause-history : goal.returns-clause-history
returns-clause-history g c = link_goes _ _ _ _ c.serve_from_empty.ensures.serving

pub returns-clause-text : goal.returns-clause-text
returns-clause-text g c = link_texts _ _ _ _ refl c.serve_from_empty.ensures.serving

pub returns-clause-cut : goal.returns-clause-cut
returns-clause-cut g c = link_cut _ _ _ _ c.serve_from_empty.ensures.serving

pub returns-clause-read_fault : goal.returns-clause-read_fault
returns-clause-read_fault g c = link_read_fault _ _ _ _ c.serve_from_empty.ensures.serving

pub returns-clause-write_fault : goal.returns-clause-write_fault
returns-clause-write_fault g c = link_write_fault _ _ _ _ c.serve_from_empty.ensures.serving
